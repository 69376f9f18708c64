-- `script::kinds::Kind::try_from` meets its contract.
-- Assumes nothing.
use mathlib.Core.Path.{refl}
use Rattle.std.proofs.Common.{arith}
use Rattle.script.specs.Kinds.{kind_of}
use Rattle.script.proofs.Named.{unknown_kind}
use Rattle.script.proofs.kinds.KindTryFromU8.try_from.Goals as goal

pub returns-in-1 : goal.returns-in-1
unfolding kind_of
returns-in-1 c = rw c.in-1.is

pub returns-in-2 : goal.returns-in-2
unfolding kind_of
returns-in-2 c = rw c.in-2.is

pub returns-in-3 : goal.returns-in-3
unfolding kind_of
returns-in-3 c = rw c.in-3.is

pub returns-in-4 : goal.returns-in-4
unfolding kind_of
returns-in-4 c = rw c.in-4.is

pub returns-in-5 : goal.returns-in-5
unfolding kind_of
returns-in-5 c = rw c.in-5.is

pub returns-in-6 : goal.returns-in-6
unfolding kind_of
returns-in-6 c = rw c.in-6.is

pub returns-in_default : goal.returns-in_default
returns-in_default c = (
  unknown_kind c.args.byte (omega arith) (omega arith) (omega arith) (omega arith) (omega arith) (omega arith),
  refl,
)
