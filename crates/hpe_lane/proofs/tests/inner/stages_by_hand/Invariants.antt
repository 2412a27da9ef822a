use Rattle.hpe_lane.proofs.tests.inner.stages_by_hand.Given as goal

abbrev pub ghosts-stages : goal.ghosts-stages
ghosts-stages g a = record { name = a.blank.name; parts = a.blank.parts }
