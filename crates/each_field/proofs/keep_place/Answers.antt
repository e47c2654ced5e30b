-- `each_field::keep_place` meets its contract: each arm is a case of what a field says.
-- Assumes nothing.
use native.Mathlib.Omega.{arith}
use Rattle.each_field.proofs.RecordLaws.{puts_nothing, puts_boolean, puts_number, puts_string, use_fits, puts_use}
use Rattle.each_field.proofs.keep_place.Goals as goal

pub overflow_cast-places : goal.overflow_cast-places
overflow_cast-places c = let h = c.requires.1 in omega arith

pub offset_bounds-places-uses : goal.offset_bounds-places-uses
offset_bounds-places-uses c = let h = use_fits _ _ _ c.in-Use.is c.requires.0 in let g = c.well_formed in omega arith

pub bounds-places-uses : goal.bounds-places-uses
bounds-places-uses c = use_fits _ _ _ c.in-Use.is c.requires.0

pub returns-in-Nothing : goal.returns-in-Nothing
returns-in-Nothing c = puts_nothing _ _ _ _ c.in-Nothing.is

pub returns-in-Boolean : goal.returns-in-Boolean
returns-in-Boolean c = puts_boolean _ _ _ _ c.in-Boolean.is

pub returns-in-Number : goal.returns-in-Number
returns-in-Number c = puts_number _ _ _ _ c.in-Number.is

pub returns-in-String : goal.returns-in-String
returns-in-String c = puts_string _ _ _ _ c.in-String.is

pub returns-in-Use : goal.returns-in-Use
returns-in-Use c = puts_use _ _ _ _ c.in-Use.is c.requires.0
