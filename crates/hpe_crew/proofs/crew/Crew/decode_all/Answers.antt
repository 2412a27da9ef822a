use Rattle.std.proofs.Common.{◌≡◌, ◌≤◌, ◌∙◌, ◌++◌, ℕ, List, length, map, take, drop, ap, sym, true, vec_len, arith}
use Rattle.std.proofs.lemmas.List.{with_items_is}
use Rattle.hpe_crew.specs.Working.{Working, answered}
use Rattle.hpe_crew.specs.CrewView.{loads_of}
use Rattle.hpe_crew.proofs.Answered.{loads_same, same_parameters, are_answered, length-answered}
use Rattle.hpe_crew.proofs.crew.Crew.decode_all.Goals.{After-decode_first}
use Rattle.hpe_crew.proofs.crew.Crew.decode_all.Goals as goal

-- the loaded words stand in jobs
within : (g : _) (c : After-decode_first g) → c.self.inside.loaded ≤ length c.self.inside.jobs.items
within g c = omega (arith, c.self.invariant.within, c.self.inside.jobs.ok.0)

-- the jobs after the call
jobs_are : (g : _) (c : After-decode_first g)
    → c.decode_first.new.jobs ≡ map answered (take c.self.inside.loaded c.self.inside.jobs.items) ++ drop c.self.inside.loaded c.self.inside.jobs.items
jobs_are g c = c.decode_first.ensures ∙ ap (λ (js : List Working). map answered (take c.self.inside.loaded js) ++ drop c.self.inside.loaded js) c.as_mut_slice.ensures.value

-- and where they stand
items_are : (g : _) (c : After-decode_first g)
    → (Rattle.std.specs.Vec.with_items c.self.inside.jobs c.decode_first.new.jobs).items ≡ map answered (take c.self.inside.loaded c.self.inside.jobs.items) ++ drop c.self.inside.loaded c.self.inside.jobs.items
items_are g c =
    with_items_is c.self.inside.jobs c.decode_first.new.jobs
    (ap (λ (l : List Working). length l) (jobs_are g c) ∙ length-answered c.self.inside.loaded c.self.inside.jobs.items ∙ sym c.self.inside.jobs.ok.0)
    ∙ jobs_are g c

pub returns : goal.returns
returns g d =
    let c = (goal.at.returns g d).After-decode_first in
    rw (← c.self.view_is) (ap (λ (l : List (List ℕ)). record { parameters = c.self.inside.profile; workers = vec_len c.self.inside.jobs; loads = l; decoded = true })
    (ap (loads_of c.self.inside.loaded) (items_are g c) ∙ loads_same c.self.inside.loaded c.self.inside.jobs.items (within g c)))

pub invariant_of-self : goal.invariant_of-self
invariant_of-self g d =
    let c = (goal.at.invariant_of-self g d).After-decode_first in
    let e = items_are g c in
    let w = within g c in
    record {
      same = rw e (same_parameters c.self.inside.profile c.self.inside.loaded c.self.inside.jobs.items c.self.invariant.same);
      some = c.self.invariant.some;
      few = c.self.invariant.few;
      within = c.self.invariant.within;
      answers = λ _. rw e (are_answered c.self.inside.loaded c.self.inside.jobs.items w);
    }
