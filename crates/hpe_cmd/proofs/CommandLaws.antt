-- What `clap` promises of the program's command, as what the words ask.
use Rattle.std.proofs.Common.{◌≡◌, ◌∙◌, List, [], ◌∷◌, true, refl, sym, ap, subst, inl, inr, codes, Option, Some, None, option_and_then}
use Rattle.clap.specs.Walk.{Text, first_of}
use Rattle.clap.specs.Simple.{App, HasMatchesOf, is_simple, matches_of}
use Rattle.clap.specs.Faults.{fault_of, is_simple_and_free}
use Rattle.clap.specs.Kinds.{HasKind, Kinds}
use Rattle.clap.specs.Matches.{found_of, first_value}
use Rattle.clap.specs.Values.{kind_of}
use Rattle.clap.specs.declared.error.Error.{Error}
use Rattle.clap.specs.declared.error.kind.ErrorKind.TheVariants.{OutOfMemory}
use Rattle.clap.specs.declared.parser.matches.ArgMatches.{ArgMatches}
use Rattle.clap.proofs.WalkLemmas.{first_value-rows}
use Rattle.hpe_cmd.specs.declared.words.Action.{Action}
use Rattle.hpe_cmd.specs.Words.{action_of, asked, command, request_for, request_of, request_without}

-- the command is one of which faults and matches are functions of the words
is_free : is_simple_and_free command ≡ true
unfolding command
is_free = refl

is_plain : is_simple command ≡ true
unfolding command
is_plain = refl

no_fault : (a : App) (ws : List Text) → a ≡ command → (is_simple_and_free a ≡ true → fault_of a ws ≡ [])
    → fault_of command ws ≡ []
no_fault a ws e h = ap (λ b. fault_of b ws) (sym e) ∙ h (ap is_simple_and_free e ∙ is_free)

value_is : (m : ArgMatches) (id : Text) (a : App) (ws : List Text) → a ≡ command → HasMatchesOf a ws m
    → first_value (found_of m) id ≡ first_of id (matches_of command ws)
value_is m id a ws e h =
    first_value-rows (found_of m) id
    ∙ ap (first_of id) ((h (ap is_simple e ∙ is_plain)).0 ∙ ap (λ b. matches_of b ws) e)

-- of two ways to give the arguments by name, those that give the same values ask the same
request_same : (given other : Text → Option Text)
    → given (codes "action") ≡ other (codes "action") → given (codes "profile") ≡ other (codes "profile")
    → given (codes "limit") ≡ other (codes "limit") → given (codes "workers") ≡ other (codes "workers")
    → given (codes "seed") ≡ other (codes "seed") → given (codes "frames") ≡ other (codes "frames")
    → given (codes "lost") ≡ other (codes "lost") → given (codes "noise") ≡ other (codes "noise")
    → request_of given ≡ request_of other
request_same given other action profile limit workers seed frames lost noise =
    ap (λ a. request_for (option_and_then action_of a) given) action
    ∙ go (option_and_then action_of (other (codes "action")))
  where
    go : (a : Option Action) → request_for a given ≡ request_for a other
    go None = refl
    go (Some a) = rw (profile, limit, workers, seed, frames, lost, noise) refl

-- words that the command takes ask what the values of its arguments ask
pub taken : (m : ArgMatches) (a : App) (ws : List Text) → a ≡ command
    → (is_simple_and_free a ≡ true → fault_of a ws ≡ []) → HasMatchesOf a ws m
    → asked ws ≡ request_of (first_value (found_of m))
unfolding asked
taken m a ws e faults matches =
    ap (λ ks. request_without ks (matches_of command ws)) (no_fault a ws e faults)
    ∙ sym (request_same (first_value (found_of m)) (λ name. first_of name (matches_of command ws))
    (value_is m (codes "action") a ws e matches)
    (value_is m (codes "profile") a ws e matches)
    (value_is m (codes "limit") a ws e matches)
    (value_is m (codes "workers") a ws e matches)
    (value_is m (codes "seed") a ws e matches)
    (value_is m (codes "frames") a ws e matches)
    (value_is m (codes "lost") a ws e matches)
    (value_is m (codes "noise") a ws e matches))

no_kind : (x : Error) → HasKind [] x → kind_of x ≡ OutOfMemory
no_kind x (inl e) = e
no_kind x (inr e) = absurd e

-- words that the command refuses for another cause than memory ask nothing
pub refused : (x : Error) (a : App) (ws : List Text) → a ≡ command
    → (is_simple_and_free a ≡ true → HasKind (fault_of a ws) x) → (kind_of x ≡ OutOfMemory → ⊥) → asked ws ≡ None
unfolding asked
refused x a ws e h not_memory =
    go (fault_of command ws) refl (subst (λ b. HasKind (fault_of b ws) x) e (h (ap is_simple_and_free e ∙ is_free)))
  where
    go : (ks : Kinds) → fault_of command ws ≡ ks → HasKind ks x
        → request_without (fault_of command ws) (matches_of command ws) ≡ None
    go [] is kind = absurd (not_memory (no_kind x kind))
    go (k ∷ ks) is kind = ap (λ l. request_without l (matches_of command ws)) is
