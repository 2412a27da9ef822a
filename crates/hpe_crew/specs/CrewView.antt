-- How contracts see the fields of a crew.
use Rattle.std.specs.Prelude.{ℕ, ◌≡◌, ◌≤◌, List, All, map, take, true, vec_len}
use Rattle.hpe_crew.specs.Working.{Working, answered}
use Rattle.hpe_crew.specs.Crewing.{Crewing}
use Rattle.hpe_crew.specs.declared.crew.Crew.TheInside.{Inside}

-- the sums of the first jobs
abbrev pub loads_of : ℕ → List Working → List (List ℕ)
loads_of n jobs = map (λ j. j.sums) (take n jobs)

abbrev pub crewing : Inside → Crewing
crewing c = record {
  parameters = c.profile;
  workers = vec_len c.jobs;
  loads = loads_of c.loaded c.jobs.items;
  decoded = c.decoded;
}

-- the loaded words stand in the first jobs, and are decoded where the crew says so
pub record IsCrew (c : Inside) : Type 0 where
  pub same : All (λ j. j.parameters ≡ c.profile) c.jobs.items
  pub some : 1 ≤ vec_len c.jobs
  pub few : vec_len c.jobs ≤ 16
  pub within : c.loaded ≤ vec_len c.jobs
  pub answers : c.decoded ≡ true → All (λ j. j ≡ answered j) (take c.loaded c.jobs.items)
