use Rattle.hpe_lane.proofs.tests.outer.a_stage_by_hand.Given as goal

abbrev pub ghosts-counted : goal.ghosts-counted
ghosts-counted g a = record { name = a.blank.name; parts = a.blank.parts }
