use Rattle.std.proofs.Common.{◌≡◌, ◌∙◌, rules, ℕ, List, refl, sym, subst, ap}
use Rattle.hpe_base.specs.Parameters.{Parameters, positions, block_bits}
use Rattle.hpe_base.specs.Codeword.{codeword}
use Rattle.hpe_base.specs.Rounds as rounds
use Rattle.hpe_base.specs.Rounds.{verdict_of}
use Rattle.hpe_turn.specs.declared.verdict.Verdict.{Verdict}
use Rattle.hpe_turn.specs.declared.verdict.Verdict.TheVariants.{Kept, Lost}
use Rattle.hpe_turn.specs.Dominance.{Dominates}
use Rattle.hpe_turn.specs.FirstRight.{IsFirstRight}
use Rattle.hpe_turn.proofs.Sent.{sent_is_kept}
use Rattle.hpe_turn.proofs.desk.Desk.decode_word.Goals as goal

pub returns-clause-checked : goal.returns-clause-checked
returns-clause-checked g c = λ round e.
    let same : c.args.self.now ≡ c.self.inside.rounds.profile = search rules in
    subst (λ (p : Parameters). IsFirstRight p c.args.counts.now round c.decode.new.block) (sym same) (c.decode.ensures.checked round e)

-- a verdict that is known is answered
answered : (result : Verdict) (verdict : rounds.Verdict) (new old sent : List ℕ) → ((r : ℕ) → result ≡ Kept r → verdict ≡ rounds.Kept r new)
    → (result ≡ Lost → (verdict ≡ rounds.Lost) × (new ≡ old)) → verdict ≡ rounds.Kept 1 sent → (result ≡ Kept 1) × (new ≡ sent)
answered (Kept r) verdict new old sent kept lost e =
    let same : rounds.Kept r new ≡ rounds.Kept 1 sent = sym (kept r refl) ∙ e in
    let first : r ≡ 1 = cc in
    let block : new ≡ sent = cc in
    (ap Kept first, block)
answered Lost verdict new old sent kept lost e =
    let none : rounds.Lost ≡ rounds.Kept 1 sent = sym (lost refl).0 ∙ e in
    absurd cc

pub returns-clause-sent : goal.returns-clause-sent
returns-clause-sent g c = λ sent bits long dominates.
    let p : Parameters = c.self.inside.rounds.profile in
    let counts : List ℕ = c.args.counts.now in
    let same : c.args.self.now ≡ p = search rules in
    let verdict : verdict_of p counts ≡ rounds.Kept 1 sent =
    sent_is_kept p c.self.inside.rounds.valid sent counts bits (long ∙ ap (λ (q : Parameters). block_bits q.rate) same)
    (subst (λ (q : Parameters). Dominates (positions q.order) counts (codeword q sent)) same dominates) in
    answered c.decode.result (verdict_of p counts) c.decode.new.block c.args.block.now sent c.decode.ensures.kept c.decode.ensures.lost verdict
