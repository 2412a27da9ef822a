use Rattle.hpe_lane.proofs.tests.plain.outer_kernels.Given as goal

abbrev pub ghosts-outer_agrees : goal.ghosts-outer_agrees
ghosts-outer_agrees g a = record { name = a.blank.name; parts = a.blank.parts }
