use Rattle.hpe_lane.proofs.tests.plain.order_agrees.Given as goal

abbrev pub ghosts-stages_agree : goal.ghosts-stages_agree
ghosts-stages_agree g a = record { name = a.blank.name; parts = a.blank.parts }

abbrev pub ghosts-best_agrees : goal.ghosts-best_agrees
ghosts-best_agrees g a = record { name = a.blank.name; parts = a.blank.parts }
