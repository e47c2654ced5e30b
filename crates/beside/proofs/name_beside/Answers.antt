-- `beside::name_beside` meets its contract: three runs of bytes one after the other.
-- Assumes nothing.
use Rattle.names.specs.Names.{ascii}
use Rattle.beside.proofs.Laws.{name_made}
use Rattle.beside.proofs.name_beside.Goals as goal

pub returns-clause-name_after : goal.returns-clause-name_after
unfolding ascii
returns-clause-name_after c =
    (name_made c.args.path.now c.args.number.now c.args.name.now _ _ _ c.folder-end.result c.folder-end.ensures.value c.folder-end.ensures.prefix_len c.requires c.put_bytes.ensures c.put_bytes-2.ensures c.put_bytes-3.ensures).0

pub returns-clause-prefix_len : goal.returns-clause-prefix_len
unfolding ascii
returns-clause-prefix_len c =
    (name_made c.args.path.now c.args.number.now c.args.name.now _ _ _ c.folder-end.result c.folder-end.ensures.value c.folder-end.ensures.prefix_len c.requires c.put_bytes.ensures c.put_bytes-2.ensures c.put_bytes-3.ensures).1
