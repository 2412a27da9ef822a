-- A stream as it takes the counts of a symbol: the words that are whole with them, and those that are settled.
use Rattle.std.proofs.Common.{rules, Vec, Global, All, IsTrue, ◌↔◌, ◌≡◌, refl, Bool, true, false, if◌then◌else◌, ◌+◌, ◌-◌, ◌*◌, ◌/◌, ◌%◌, ◌<◌, ◌≤◌, ◌++◌, ℕ, List, [], ◌∷◌, length, take, ap, sym, subst, ◌∙◌, arith, inl, inr, append-nil, length-append}
use Rattle.std.specs.declared.option.Option.{Option}
use Rattle.std.proofs.Math.Nat.{div-mul-le_self}
use Rattle.std.proofs.lemmas.Nat.{div-mul-add, mod-mul-add, div-add-mod', mod_below, mul-le}
use Rattle.std.proofs.lemmas.Bool.{cases_lt}
use Rattle.std.proofs.lemmas.List.{nil_from_length, length-map, length-take-le, take_all, drop_all}
use Rattle.hpe_base.specs.Parameters.{Parameters, IsValid, clamp, period_slots, positions, codeword_symbols, interleaver_depth}
use Rattle.hpe_base.specs.ChannelInterleaver.{deinterleaved_channel}
use Rattle.hpe_base.specs.ReceivedWords.{channel_sums}
use Rattle.hpe_base.specs.Rounds.{Verdict, verdict_of}
use Rattle.hpe_base.proofs.Tabulated.{length-tabulate}
use Rattle.hpe_base.proofs.ParameterLemmas.{codeword_symbols-ge}
use Rattle.hpe_weave.proofs.Channels.{unchannel_none}
use Rattle.hpe_rows.specs.Rows.{periods_in, rows_of, placed_rows}
use Rattle.hpe_rows.specs.RowsState.{RowsState, HasRows}
use Rattle.hpe_rows.proofs.SymbolRows.{rows_of-none}
use Rattle.hpe_rows.proofs.WholePeriods.{channel_sums-rows, length-rows-le}
use Rattle.hpe_recv.specs.Batching.{Batching, HasBatched, waiting, late_count}
use Rattle.hpe_recv.specs.Delivering.{PutsPart}
use Rattle.hpe_recv.specs.Settled.{verdicts_on, settled}
use Rattle.hpe_recv.specs.Streaming.{Streaming, HasWord, HasSettled, HasTaken, HasCollected}
use Rattle.hpe_recv.specs.StreamView.{IsStreaming}
use Rattle.hpe_recv.specs.declared.stream.Stream.TheInside.{Inside}
use Rattle.hpe_recv.proofs.WordRows.{sums_of, verdicts_begun, verdicts_word, word_more, word_whole, take_none}
use Rattle.hpe_base.proofs.ReceivedRows.{length-channel_sums, channel_sums-stay}

-- ---- how many verdicts there are

length-verdicts : (p : Parameters) (rows : List (List ℕ)) → length (verdicts_on p (deinterleaved_channel p [] rows)) ≡ (length rows - interleaver_depth p) / codeword_symbols p.order
unfolding verdicts_on deinterleaved_channel
length-verdicts p rows =
    length-map _ _ ∙ length-tabulate (length (deinterleaved_channel p [] rows) / codeword_symbols p.order) _ ∙ ap (λ n. n / codeword_symbols p.order) (length-tabulate _ _)

-- in the symbols of a word no more than one is completed
words-le : (q x s d : ℕ) → 0 < s → x ≤ (q + 1) * s → (x - d) / s ≤ (q * s - d) / s + 1
words-le q x s d some most =
    let here : (q * s - d) / s * s + (q * s - d) % s ≡ q * s - d = div-add-mod' (q * s - d) s in
    let low : (q * s - d) % s < s = mod_below (q * s - d) s some in
    let there : (x - d) / s * s ≤ x - d = div-mul-le_self (x - d) s in
    let next : (q + 1) * s ≡ q * s + s = grind arith in
    elim (cases_lt ((q * s - d) / s + 1) ((x - d) / s)) [
      | inl far ↦
          let up : ((q * s - d) / s + 2) * s ≤ (x - d) / s * s = mul-le ((q * s - d) / s + 2) s ((x - d) / s) s (omega arith) (omega arith) in
          let two : ((q * s - d) / s + 2) * s ≡ (q * s - d) / s * s + s + s = grind arith in
          absurd (omega arith)
      | inr near ↦ omega arith
    ]

-- and so in a period
pub one_more : (p : Parameters) (seen later : List ℕ) → IsValid p → length later ≤ (periods_in p seen + 1) * period_slots p
    → length (verdicts_on p (placed_rows p later)) ≤ length (settled p seen) + 1
one_more p seen later v most =
    let s : ℕ = codeword_symbols p.order in
    let d : ℕ = interleaver_depth p in
    let wide : 1890 ≤ s = codeword_symbols-ge p.order in
    let new : length (verdicts_on p (placed_rows p later)) ≡ (length (rows_of p later) - d) / s = length-verdicts p (rows_of p later) in
    let old : length (settled p seen) ≡ (periods_in p seen * s - d) / s = length-verdicts p (channel_sums p seen 0) ∙ ap (λ n. (n - d) / s) (length-channel_sums p seen) in
    omega (arith, words-le (periods_in p seen) (length (rows_of p later)) s d (omega arith) (length-rows-le p (periods_in p seen + 1) later v most))

-- ---- what is settled

-- nothing more until the period ends
settled_same : (p : Parameters) (seen more : List ℕ) → IsValid p → length (seen ++ more) < (periods_in p seen + 1) * period_slots p → settled p (seen ++ more) ≡ settled p seen
settled_same p seen more v less = ap (λ (rows : List (List ℕ)). verdicts_on p (deinterleaved_channel p [] rows)) (channel_sums-stay p seen more v less)

-- and then all words
settled_all : (p : Parameters) (q : ℕ) (seen : List ℕ) → IsValid p → length seen ≡ q * period_slots p → settled p seen ≡ verdicts_on p (placed_rows p seen)
settled_all p q seen v long = ap (λ (rows : List (List ℕ)). verdicts_on p (deinterleaved_channel p [] rows)) (channel_sums-rows p q seen v long)

-- equal verdicts under equal parameters
pub puts_same : (p q : Parameters) (vs ws : List Verdict) (f f' r r' : Option (List ℕ)) → p ≡ q → vs ≡ ws → PutsPart p vs f f' r r' → PutsPart q ws f f' r r'
puts_same p q vs ws f f' r r' e d h = subst (λ (x : Parameters). PutsPart x ws f f' r r') e (subst (λ (xs : List Verdict). PutsPart p xs f f' r r') d h)

-- ---- a row more

early : (late : Bool) → ◌≡◌ {A = ℕ} (if late then 1 else 0) 0 → late ≡ false
early true e = absurd (omega arith)
early false e = refl

-- a word is completed only in a period in which none was completed before
not_late : (b : Batching) (all all' verdicts : List Verdict) (v : Verdict) (f f' r r' : Option (List ℕ)) → HasBatched b all verdicts f f' r r'
    → all' ≡ all ++ v ∷ [] → length all' ≤ length verdicts + 1 → (b.late ≡ false) × (all ≡ verdicts)
not_late b all all' verdicts v f f' r r' h e few =
    let w : List Verdict = waiting b in
    let n : ℕ = length w - late_count b in
    let one : length all' ≡ length all + 1 = ap (λ (vs : List Verdict). length vs) e ∙ length-append all (v ∷ []) in
    let has : length all ≡ length h.put + length w = ap (λ (vs : List Verdict). length vs) h.all_are ∙ length-append h.put w in
    let whole : length verdicts ≡ length h.put + length (take n w) = ap (λ (vs : List Verdict). length vs) h.whole_are ∙ length-append h.put (take n w) in
    let less : length (take n w) ≡ n = length-take-le n w (omega arith) in
    let none : late_count b ≡ 0 = (let s = h.some in omega arith) in (
      early b.late none,
      h.all_are ∙ ap (λ (l : List Verdict). h.put ++ l) (sym (take_all n w (omega arith))) ∙ sym h.whole_are,
    )

-- a stream whose rows and word have gone on, with the same words
on : (s : Streaming) (rows : RowsState) (sums : List ℕ) (filled : ℕ) (later : List ℕ) (vs : List Verdict) (f f' r r' : Option (List ℕ)) → rows.parameters ≡ s.rows.parameters
    → HasRows rows later → HasWord s.rows.parameters (placed_rows s.rows.parameters later) filled sums
    → HasBatched s.batch (verdicts_on s.rows.parameters (placed_rows s.rows.parameters later)) vs f f' r r' → s.batch.crew.parameters ≡ s.rows.parameters
    → HasSettled (record s { rows = rows; sums = sums; filled = filled }) later vs f f' r r'
on s rows sums filled later vs f f' r r' e h w b same = record {
  came = h;
  word = subst (λ (p : Parameters). HasWord p (placed_rows p later) filled sums) (sym e) w;
  batched = subst (λ (p : Parameters). HasBatched s.batch (verdicts_on p (placed_rows p later)) vs f f' r r') (sym e) b;
  profile = same ∙ sym e;
}

-- no row has come
pub none_came : (s : Streaming) (rows : RowsState) (sums seen later : List ℕ) (vs : List Verdict) (f f' r r' : Option (List ℕ)) → HasSettled s seen vs f f' r r' → rows.parameters ≡ s.rows.parameters
    → HasRows rows later → placed_rows s.rows.parameters later ≡ placed_rows s.rows.parameters seen ++ []
    → take (s.filled * positions s.rows.parameters.order) sums ≡ take (s.filled * positions s.rows.parameters.order) s.sums
    → HasSettled (record s { rows = rows; sums = sums }) later vs f f' r r'
none_came s rows sums seen later vs f f' r r' h e came placed front =
    let p : Parameters = s.rows.parameters in
    let same : placed_rows p seen ≡ placed_rows p later = sym (placed ∙ append-nil (placed_rows p seen)) in
    on s rows sums s.filled later vs f f' r r' e came
    (subst (λ (rs : List (List ℕ)). HasWord p rs s.filled sums) same (record { count = h.word.count; front = front ∙ h.word.front }))
    (subst (λ (rs : List (List ℕ)). HasBatched s.batch (verdicts_on p rs) vs f f' r r') same h.batched) h.profile

-- one has, and its word isn't whole
pub row_came : (s : Streaming) (rows : RowsState) (row sums seen later : List ℕ) (vs : List Verdict) (f f' r r' : Option (List ℕ)) → HasSettled s seen vs f f' r r' → rows.parameters ≡ s.rows.parameters
    → HasRows rows later → placed_rows s.rows.parameters later ≡ placed_rows s.rows.parameters seen ++ row ∷ [] → s.filled + 1 < codeword_symbols s.rows.parameters.order
    → take ((s.filled + 1) * positions s.rows.parameters.order) sums ≡ take (s.filled * positions s.rows.parameters.order) s.sums ++ row
    → HasSettled (record s { rows = rows; sums = sums; filled = s.filled + 1 }) later vs f f' r r'
row_came s rows row sums seen later vs f f' r r' h e came placed less put =
    let p : Parameters = s.rows.parameters in
    let early : length (placed_rows p seen) % codeword_symbols p.order + 1 < codeword_symbols p.order = (let c = h.word.count in omega arith) in
    on s rows sums (s.filled + 1) later vs f f' r r' e came
    (subst (λ (rs : List (List ℕ)). HasWord p rs (s.filled + 1) sums) (sym placed) (word_more p (placed_rows p seen) row s.sums sums s.filled h.word less put))
    (subst (λ (ws : List Verdict). HasBatched s.batch ws vs f f' r r') (sym (ap (verdicts_on p) placed ∙ verdicts_begun p (placed_rows p seen) row early)) h.batched) h.profile

-- its word is whole, the first of its period
pub record IsCompleted (s : Streaming) (sums seen later : List ℕ) : Type 0 where
  pub late : s.batch.late ≡ false
  pub before : verdicts_on s.rows.parameters (placed_rows s.rows.parameters seen) ≡ settled s.rows.parameters seen
  pub all : verdicts_on s.rows.parameters (placed_rows s.rows.parameters later) ≡ verdicts_on s.rows.parameters (placed_rows s.rows.parameters seen) ++ verdict_of s.rows.parameters sums ∷ []

pub completed_is : (s : Streaming) (row sums seen later : List ℕ) (f f' r r' : Option (List ℕ)) → HasTaken s seen f f' r r' → placed_rows s.rows.parameters later ≡ placed_rows s.rows.parameters seen ++ row ∷ []
    → s.filled + 1 ≡ codeword_symbols s.rows.parameters.order → sums ≡ take (s.filled * positions s.rows.parameters.order) s.sums ++ row
    → length later ≤ (periods_in s.rows.parameters seen + 1) * period_slots s.rows.parameters → IsCompleted s sums seen later
completed_is s row sums seen later f f' r r' h placed ends put most =
    let p : Parameters = s.rows.parameters in
    let late : length (placed_rows p seen) % codeword_symbols p.order + 1 ≡ codeword_symbols p.order = (let c = h.word.count in omega arith) in
    let all : verdicts_on p (placed_rows p later) ≡ verdicts_on p (placed_rows p seen) ++ verdict_of p sums ∷ [] =
    ap (verdicts_on p) placed ∙ verdicts_word p (placed_rows p seen) row late
    ∙ ap (λ (l : List ℕ). verdicts_on p (placed_rows p seen) ++ verdict_of p l ∷ []) (sym (put ∙ ap (λ (l : List ℕ). l ++ row) h.word.front)) in
    let first = not_late s.batch (verdicts_on p (placed_rows p seen)) (verdicts_on p (placed_rows p later)) (settled p seen) (verdict_of p sums) f f' r r' h.batched all (one_more p seen later h.came.passed.valid most) in
    record { late = first.0; before = first.1; all = all }

-- and the batch has taken it
pub word_came : (s : Streaming) (rows : RowsState) (batch : Batching) (row sums seen later : List ℕ) (f f' r r' g g' t t' : Option (List ℕ)) → HasTaken s seen f f' r r' → rows.parameters ≡ s.rows.parameters
    → HasRows rows later → placed_rows s.rows.parameters later ≡ placed_rows s.rows.parameters seen ++ row ∷ [] → s.filled + 1 ≡ codeword_symbols s.rows.parameters.order
    → IsCompleted s sums seen later → batch.crew.parameters ≡ s.batch.crew.parameters
    → HasBatched batch (verdicts_on s.rows.parameters (placed_rows s.rows.parameters seen) ++ verdict_of s.batch.crew.parameters sums ∷ []) (verdicts_on s.rows.parameters (placed_rows s.rows.parameters seen)) g g' t t'
    → HasSettled (record { rows = rows; sums = sums; filled = 0; batch = batch }) later (settled s.rows.parameters seen) g g' t t'
word_came s rows batch row sums seen later f f' r r' g g' t t' h e came placed ends c kept taken =
    let p : Parameters = s.rows.parameters in
    let before : List Verdict = verdicts_on p (placed_rows p seen) in
    on (record s { batch = batch }) rows sums 0 later (settled p seen) g g' t t' e came
    (subst (λ (rs : List (List ℕ)). HasWord p rs 0 sums) (sym placed) (word_whole p (placed_rows p seen) row s.sums sums s.filled h.word ends))
    (subst (λ (vs : List Verdict). HasBatched batch (verdicts_on p (placed_rows p later)) vs g g' t t') c.before
    (subst (λ (vs : List Verdict). HasBatched batch vs before g g' t t') (ap (λ (q : Parameters). before ++ verdict_of q sums ∷ []) h.profile ∙ sym c.all) taken))
    (kept ∙ h.profile)

-- what came, by the parameters that were before
pub collected : (s : Streaming) (p : Parameters) (seen later : List ℕ) (ended : Bool) (f f' r r' : Option (List ℕ)) → s.rows.parameters ≡ p → HasSettled s later (settled p seen) f f' r r'
    → length later ≤ (periods_in p seen + 1) * period_slots p → (IsTrue ended ↔ (length later ≡ (periods_in p seen + 1) * period_slots p)) → HasCollected s seen later ended f f' r r'
collected s p seen later ended f f' r r' e stands within reached = record {
  stands = subst (λ (q : Parameters). HasSettled s later (settled q seen) f f' r r') (sym e) stands;
  within = subst (λ (q : Parameters). length later ≤ (periods_in q seen + 1) * period_slots q) (sym e) within;
  reached = subst (λ (q : Parameters). IsTrue ended ↔ (length later ≡ (periods_in q seen + 1) * period_slots q)) (sym e) reached;
}

-- what every stream keeps, with a row that has come or not
pub keeps : (s : Inside) (rows : RowsState) (sums : Vec ℕ Global) (filled : ℕ) → IsStreaming s → rows.parameters ≡ s.rows.parameters → length sums.items ≡ length s.sums.items
    → filled < codeword_symbols s.rows.parameters.order → All (λ sum. sum ≤ clamp) (take (filled * positions s.rows.parameters.order) sums.items)
    → IsStreaming (record s { rows = rows; sums = sums; filled = filled })
keeps s rows sums filled i e long less small = record {
  profile = i.profile ∙ sym e;
  room = long ∙ i.room ∙ ap (λ (q : Parameters). codeword_symbols q.order * positions q.order) (sym e);
  begun = subst (λ (q : Parameters). filled < codeword_symbols q.order) (sym e) less;
  small = subst (λ (q : Parameters). All (λ sum. sum ≤ clamp) (take (filled * positions q.order) sums.items)) (sym e) small;
}

-- ---- the first state, and the end of a period

-- a stream before its first count
pub taken_none : (s : Streaming) (f r : Option (List ℕ)) → HasRows s.rows [] → s.filled ≡ 0 → HasBatched s.batch [] [] f f r r → s.batch.crew.parameters ≡ s.rows.parameters → HasTaken s [] f f r r
taken_none s f r came zero batched same =
    let p : Parameters = s.rows.parameters in
    let wide : 1890 ≤ codeword_symbols p.order = codeword_symbols-ge p.order in
    let v : IsValid p = came.passed.valid in
    let rows : List (List ℕ) = placed_rows p [] in
    let none : placed_rows p [] ≡ [] = ap (λ (rs : List (List ℕ)). deinterleaved_channel p [] rs) (rows_of-none p v) ∙ unchannel_none p [] (omega arith) in
    let nothing : 0 ≡ 0 * period_slots p = omega arith in
    let nil : verdicts_on p (placed_rows p []) ≡ [] = nil_from_length (verdicts_on p (placed_rows p []))
    (length-verdicts p (rows_of p []) ∙ ap (λ (rs : List (List ℕ)). (length rs - interleaver_depth p) / codeword_symbols p.order) (rows_of-none p v)
    ∙ (let less : 0 - interleaver_depth p ≡ 0 * codeword_symbols p.order + 0 = omega arith in ap (λ n. n / codeword_symbols p.order) less ∙ div-mul-add 0 (codeword_symbols p.order) 0 (omega arith))) in
    let empty : settled p [] ≡ [] = settled_all p 0 [] v nothing ∙ nil in
    let even : 0 ≡ 0 * codeword_symbols p.order + 0 = omega arith in
    let rest : 0 % codeword_symbols p.order ≡ 0 = ap (λ n. n % codeword_symbols p.order) even ∙ mod-mul-add 0 (codeword_symbols p.order) 0 (omega arith) in
    record {
      came = came;
      word = subst (λ (rs : List (List ℕ)). HasWord p rs s.filled s.sums) (sym none) (record {
        count = zero ∙ sym rest;
        front = ap (λ k. take (k * positions p.order) s.sums) zero ∙ take_none (positions p.order) s.sums ∙ sym (ap sums_of (drop_all (0 - 0 % codeword_symbols p.order) [] (omega arith)));
      });
      batched = subst (λ (vs : List Verdict). HasBatched s.batch vs (settled p []) f f r r) (sym nil) (subst (λ (vs : List Verdict). HasBatched s.batch [] vs f f r r) (sym empty) batched);
      profile = same;
    }

-- the batch has settled the word of the period
pub batch_settled : (s : Streaming) (batch : Batching) (seen : List ℕ) (vs : List Verdict) (f f' g g' r r' t t' : Option (List ℕ)) → HasSettled s seen vs f f' r r'
    → batch.crew.parameters ≡ s.batch.crew.parameters
    → HasBatched batch (verdicts_on s.rows.parameters (placed_rows s.rows.parameters seen)) (verdicts_on s.rows.parameters (placed_rows s.rows.parameters seen)) g g' t t'
    → HasSettled (record s { batch = batch }) seen (verdicts_on s.rows.parameters (placed_rows s.rows.parameters seen)) g g' t t'
batch_settled s batch seen vs f f' g g' r r' t t' h same b = record { came = h.came; word = h.word; batched = b; profile = same ∙ h.profile }

settled_equal : (s : Streaming) (seen : List ℕ) (vs ws : List Verdict) (f f' r r' : Option (List ℕ)) → vs ≡ ws → HasSettled s seen vs f f' r r' → HasSettled s seen ws f f' r r'
settled_equal s seen vs ws f f' r r' e h = subst (λ (xs : List Verdict). HasSettled s seen xs f f' r r') e h

-- nothing more is settled where no period has ended
pub within_taken : (s : Streaming) (seen part : List ℕ) (ended : Bool) (f f' r r' : Option (List ℕ)) → ended ≡ false → HasCollected s seen (seen ++ part) ended f f' r r' → HasTaken s (seen ++ part) f f' r r'
within_taken s seen part ended f f' r r' runs h =
    let p : Parameters = s.rows.parameters in
    let apart : (length (seen ++ part) ≡ (periods_in p seen + 1) * period_slots p) → ⊥ = λ e. let t : true ≡ false = sym (h.reached.1 e) ∙ runs in absurd (search rules) in
    let less : length (seen ++ part) < (periods_in p seen + 1) * period_slots p = elim (cases_lt (length (seen ++ part)) ((periods_in p seen + 1) * period_slots p)) [
      | inl below ↦ below
      | inr not ↦ absurd (apart (let w = h.within in omega arith))
    ] in
    settled_equal s (seen ++ part) (settled p seen) (settled p (seen ++ part)) f f' r r' (sym (settled_same p seen part h.stands.came.passed.valid less)) h.stands

-- all is where one has
pub settled_end : (s : Streaming) (seen later : List ℕ) (ended : Bool) (f f' r r' : Option (List ℕ)) → ended ≡ true → HasCollected s seen later ended f f' r r'
    → verdicts_on s.rows.parameters (placed_rows s.rows.parameters later) ≡ settled s.rows.parameters later
settled_end s seen later ended f f' r r' over h =
    sym (settled_all s.rows.parameters (periods_in s.rows.parameters seen + 1) later h.stands.came.passed.valid (h.reached.0 over))

pub ended_taken : (s new : Streaming) (seen later : List ℕ) (ended : Bool) (f f' g g' r r' t t' : Option (List ℕ)) → new.rows.parameters ≡ s.rows.parameters → ended ≡ true → HasCollected s seen later ended f f' r r'
    → HasSettled new later (verdicts_on s.rows.parameters (placed_rows s.rows.parameters later)) g g' t t' → HasTaken new later g g' t t'
ended_taken s new seen later ended f f' g g' r r' t t' e over h b =
    settled_equal new later _ _ g g' t t' (settled_end s seen later ended f f' r r' over h ∙ ap (λ (q : Parameters). settled q later) (sym e)) b
