use Rattle.goblin_base.proofs.Common.{◌≡◌, drop, find, is_kind}
use Rattle.goblin_base.proofs.texts.find_kind.Given as goal

-- the kind is the first one of those not yet seen
abbrev pub invariant-loop-kind : goal.invariant-loop-kind
invariant-loop-kind l = find (is_kind l.number) (drop l.kind-index l.kinds) ≡ find (is_kind l.number) l.kinds
