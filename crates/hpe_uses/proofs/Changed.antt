-- The built-in profile with other octets of a frame and of a count.
use Rattle.std.proofs.Common.{if◌then◌else◌, ◌≡◌, ◌∙◌, ◌++◌, ◌^◌, ◌-◌, ℤ, pos, Bool, true, false, List, [], ◌∷◌, Option, Some, None, Ok, Err, refl, ap, unsigned_abs, is_some}
use Rattle.hpe_base.specs.Parameters.{Parameters, basic}
use Rattle.hpe_base.specs.Validity.{within, order_of, rate_of, is_check, is_columns, is_marker, first_failing, first_out_of_range, first_broken, parameters_of, profile_of}
use Rattle.hpe_base.specs.declared.fault.Key.{Key}
use Rattle.hpe_base.specs.declared.fault.Key.TheVariants as key
use Rattle.hpe_base.specs.declared.fault.Rule.{Rule}
use Rattle.hpe_base.specs.declared.fault.ProfileFault.TheVariants.{Range, Tie}
use Rattle.hpe_base.specs.declared.fields.Fields.{Fields}
use Rattle.hpe_uses.specs.Profiles.{basic_with, profile_with}

-- the fields with other octets of a frame, and two of a count
abbrev pub changed : Fields → ℤ → Fields
changed f octets = record f { frame_octets = octets; count_octets = pos 2 }

-- where no test fails, none of the first fails
none-before : {X : Type 0} (tests rest : List (X × Bool)) → first_failing (tests ++ rest) ≡ None → first_failing tests ≡ None
unfolding first_failing
none-before [] rest h = refl
none-before ((x, true) ∷ tests) rest h = none-before tests rest h
none-before ((x, false) ∷ tests) rest h = cc

-- and none of the others
none-after : {X : Type 0} (tests rest : List (X × Bool)) → first_failing (tests ++ rest) ≡ None → first_failing rest ≡ None
unfolding first_failing
none-after [] rest h = h
none-after ((x, true) ∷ tests) rest h = none-after tests rest h
none-after ((x, false) ∷ tests) rest h = cc

-- behind tests of which none fails, the first that fails is one of the others
past : {X : Type 0} (tests rest : List (X × Bool)) → first_failing tests ≡ None → first_failing (tests ++ rest) ≡ first_failing rest
unfolding first_failing
past [] rest h = refl
past ((x, true) ∷ tests) rest h = past tests rest h
past ((x, false) ∷ tests) rest h = cc

-- fields that make a profile are within their ranges, break no rule, and are read as it
made-at : (o : Option Key) (r : Option Rule) (f : Fields) (p : Parameters) → first_out_of_range f ≡ o → first_broken (parameters_of f) ≡ r → profile_of f ≡ Ok p
    → (first_out_of_range f ≡ None) × (first_broken (parameters_of f) ≡ None) × (parameters_of f ≡ p)
unfolding profile_of
made-at (Some k) r f p e b h = let refused : profile_of f ≡ Err (Range k) = rw (e, profile_of) refl in cc
made-at None (Some r) f p e b h = let refused : profile_of f ≡ Err (Tie r) = rw (e, b, profile_of) refl in cc
made-at None None f p e b h = let read : profile_of f ≡ Ok (parameters_of f) = rw (e, b, profile_of) refl in (e, b, cc)

-- what fields make of which all tests but that of the octets of a frame are known to hold
answer-of : (f : Fields) (p : Parameters) (tests : List (Key × Bool)) (fits : Bool) → first_out_of_range f ≡ first_failing ((key.FrameOctets, fits) ∷ tests) → first_failing tests ≡ None
    → first_broken (parameters_of f) ≡ None → parameters_of f ≡ p → profile_of f ≡ (if fits then Ok p else Err (Range key.FrameOctets))
unfolding profile_of first_failing
answer-of f p tests true e none b q = let within : first_out_of_range f ≡ None = e ∙ none in rw (within, b, profile_of) (ap Ok q)
answer-of f p tests false e none b q = let out : first_out_of_range f ≡ Some key.FrameOctets = e in rw (out, profile_of) refl

-- the tests before that of the octets of a frame, those between it and that of the octets of a count, and those behind it
abbrev first : Fields → List (Key × Bool)
first f = (key.Order, is_some (order_of f.order)) ∷ (key.Rate, is_some (rate_of f.rate.now)) ∷ []

abbrev middle : Fields → List (Key × Bool)
middle f =
    (key.FrameMarker, within 1 (2 ^ 32 - 1) f.frame_marker)
    ∷ (key.Taps, within 0 255 f.taps)
    ∷ (key.Seed, within 0 255 f.seed)
    ∷ (key.Check, is_check f.check)
    ∷ (key.Columns, is_columns f.columns.now)
    ∷ (key.Rows, within 1 64 f.rows)
    ∷ (key.Delay, within 1 (2 ^ 23) f.delay)
    ∷ (key.Marker, is_marker f.marker.now)
    ∷ (key.Repeat, within 1 32 f.repeat)
    ∷ (key.Rounds, within 1 64 f.rounds)
    ∷ (key.Search, within 1 4 f.search)
    ∷ []

abbrev last : Fields → List (Key × Bool)
last f = (key.Scale, within 1 8 f.scale) ∷ []

-- what the changed fields make, where the others make the built-in profile
pub changed_makes : (f : Fields) (octets : ℤ) → profile_of f ≡ Ok basic → profile_of (changed f octets) ≡ profile_with octets
unfolding first_failing
changed_makes f octets h =
    let m = made-at (first_out_of_range f) (first_broken (parameters_of f)) f basic refl refl h in
    let count : List (Key × Bool) = (key.CountOctets, within 1 2 f.count_octets) ∷ last f in
    let frame : List (Key × Bool) = (key.FrameOctets, within 1 65536 f.frame_octets) ∷ (middle f ++ count) in
    let a : first_failing (first f) ≡ None = none-before (first f) frame m.0 in
    let b : first_failing (middle f ++ count) ≡ None =
    none-after ((key.FrameOctets, within 1 65536 f.frame_octets) ∷ []) (middle f ++ count) (none-after (first f) frame m.0) in
    let c : first_failing (middle f) ≡ None = none-before (middle f) count b in
    let d : first_failing (last f) ≡ None =
    none-after ((key.CountOctets, within 1 2 f.count_octets) ∷ []) (last f) (none-after (middle f) count b) in
    let tests : List (Key × Bool) = middle f ++ (key.CountOctets, true) ∷ last f in
    let none : first_failing tests ≡ None = past (middle f) ((key.CountOctets, true) ∷ last f) c ∙ d in
    answer-of (changed f octets) (basic_with octets) tests (within 1 65536 octets)
    (past (first f) ((key.FrameOctets, within 1 65536 octets) ∷ tests) a) none m.1
    (ap (λ (q : Parameters). record q { frame_octets = unsigned_abs octets; count_octets = 2 }) m.2)
