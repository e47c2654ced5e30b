use native.Mathlib.Omega.{arith}
use Rattle.contents.proofs.UsualLaws.{tells_end, tells_itself}
use Rattle.contents.proofs.usual_at.Goals as goal

pub returns-then-b-gt44 : goal.returns-then-b-gt44
returns-then-b-gt44 c = tells_itself c.args.text.now c.args.at (omega arith) (omega arith) (λ e. omega arith) (λ e. omega arith) (λ e. omega arith)

pub returns-then-b-eq44 : goal.returns-then-b-eq44
returns-then-b-eq44 c = tells_end c.args.text.now c.args.at c.if-b-eq44.true

pub returns-then-b-ge32 : goal.returns-then-b-ge32
returns-then-b-ge32 c = tells_itself c.args.text.now c.args.at (omega arith) (omega arith) (λ e. omega arith) (λ e. omega arith) (λ e. omega arith)

pub returns-then-b-le126 : goal.returns-then-b-le126
returns-then-b-le126 c = tells_itself c.args.text.now c.args.at (omega arith) (omega arith) (λ e. omega arith) (λ e. omega arith) (λ e. omega arith)
