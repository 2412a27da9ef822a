use Rattle.std.proofs.Common.{◌≡◌, ◌++◌, ◌+◌, length, take}
use Rattle.hpe_base.specs.ConvolutionalCode.{selected}
use Rattle.hpe_code.proofs.outer.put_selected.Given as goal

abbrev pub invariant-loop-i : goal.invariant-loop-i
invariant-loop-i l =
    (l.next ≡ l.at + length (selected (take l.i l.flags) (take l.i l.bits)))
    × (take l.next l.into ≡ take l.at l.initial.into ++ selected (take l.i l.flags) (take l.i l.bits))
