-- The words of a batch on their way to the outlet.
use Rattle.std.specs.Prelude.{Result, Ok, Err, OnOk, OnErr, IsErrOf}
use Rattle.hpe_recv.specs.declared.outlet.Cut.{Cut}
use Rattle.hpe_recv.specs.declared.outlet.Cut.TheVariants as cut
use Rattle.std.proofs.Common.{rules, ◌≡◌, ◌≤◌, ◌<◌, ◌+◌, ◌-◌, ◌++◌, ◌∷◌, [], ℕ, List, length, map, take, drop, ap, ap₂, sym, subst, ◌∙◌, refl, arith, append_assoc, append-nil, Some, None, Bool, true, false, if◌then◌else◌, take-add}
use Rattle.std.specs.declared.option.Option.{Option}
use Rattle.std.specs.Io.KnownBytes.{append_known}
use Rattle.std.proofs.lemmas.List.{take_all, take_at, take-append-drop, length-map, map_push, get_or-map, length_push}
use Rattle.std.proofs.lemmas.Grind.{take_at_read}
use Rattle.hpe_base.specs.Parameters.{Parameters}
use Rattle.hpe_base.specs.Rounds.{Verdict, Lost, verdict_of}
use Rattle.hpe_base.specs.Decoded.{word_lines}
use Rattle.hpe_turn.specs.declared.verdict.Verdict as answer
use Rattle.hpe_crew.specs.Crewing.{Crewing, loaded_verdict}
use Rattle.hpe_crew.specs.Answering.{verdict_with}
use Rattle.hpe_recv.specs.Delivering.{Delivering, HasDelivered, PutsPart, PutsLines, ByAnswer, ByCut}
use Rattle.hpe_recv.specs.Batching.{Batching, completed, loaded_verdicts, waiting, late_count, ready, IsAlone, HasBatched}
use Rattle.hpe_recv.proofs.Settling.{puts_part_more}

-- ---- the first words of a crew

length-loaded : (c : Crewing) → length (loaded_verdicts c) ≡ length c.loads
length-loaded c = length-map c.loads (verdict_of c.parameters)

-- with one verdict more
pub first_more : (c : Crewing) (vs : List Verdict) (i : ℕ) → i < length c.loads
    → vs ++ take (i + 1) (loaded_verdicts c) ≡ (vs ++ take i (loaded_verdicts c)) ++ loaded_verdict c i ∷ []
first_more c vs i b =
    let below : i < length (loaded_verdicts c) = omega (arith, length-loaded c) in
    ap (λ (l : List Verdict). vs ++ l)
    ((take_at_read (loaded_verdicts c) i Lost below).1
    ∙ ap (λ (v : Verdict). take i (loaded_verdicts c) ++ v ∷ []) (get_or-map (verdict_of c.parameters) c.loads i [] Lost b))
    ∙ sym (append_assoc vs (take i (loaded_verdicts c)) (loaded_verdict c i ∷ []))

-- they stand at the front of more of them
pub first_front : (c : Crewing) (vs : List Verdict) (i n : ℕ) → i ≤ n
    → vs ++ take n (loaded_verdicts c) ≡ (vs ++ take i (loaded_verdicts c)) ++ take (n - i) (drop i (loaded_verdicts c))
first_front c vs i n b =
    let e : n ≡ i + (n - i) = omega arith in
    ap (λ (l : List Verdict). vs ++ l) (ap (λ k. take k (loaded_verdicts c)) e ∙ take-add i (n - i) (loaded_verdicts c))
    ∙ sym (append_assoc vs (take i (loaded_verdicts c)) (take (n - i) (drop i (loaded_verdicts c))))

-- what was put of verdicts that stand at the front of others
pub puts_front : (p : Parameters) (vs more ws : List Verdict) (f f' r r' : Option (List ℕ)) → ws ≡ vs ++ more → PutsPart p vs f f' r r' → PutsPart p ws f f' r r'
puts_front p vs more ws f f' r r' e h = subst (λ (xs : List Verdict). PutsPart p xs f f' r r') (sym e) (puts_part_more p vs more f f' r r' h)

-- first lines of a front are first lines of the whole
pub lines_of_front : (vs more ws : List Verdict) (begin told : Option (List ℕ)) → ws ≡ vs ++ more → told ≡ append_known begin (word_lines 0 vs) → PutsLines ws begin told
lines_of_front vs more ws begin told e h =
    (length vs, h ∙ ap (λ (xs : List Verdict). append_known begin (word_lines 0 xs)) (sym (ap (take (length vs)) e ∙ take_at vs more (length vs) refl)))

-- the first words of a front are first words of the whole
pub some_lines_front : (vs more ws : List Verdict) (begin told : Option (List ℕ)) → ws ≡ vs ++ more → PutsLines vs begin told → PutsLines ws begin told
some_lines_front vs more ws begin told e h =
    lines_of_front (take h.0 vs) (drop h.0 vs ++ more) ws begin told
    (e ∙ ap (λ (xs : List Verdict). xs ++ more) (sym (take-append-drop h.0 vs)) ∙ append_assoc (take h.0 vs) (drop h.0 vs) more) h.1

-- ---- what was put, by the answer

pub front_at : (F L : Type 0) (e : Cut) → ByCut e F L → F
front_at F L cut.Frames h = h.0
front_at F L cut.Report h = h

pub lines_at : {T : Type 0} (F L : Type 0) (e : Cut) → ByCut e F L → IsErrOf {T = T} (Err e) cut.Frames → L
lines_at F L cut.Frames h is = h.1
lines_at F L cut.Report h is = absurd cc

pub put_at : {T : Type 0} (F L : Type 0) (e : Cut) → F → (IsErrOf {T = T} (Err e) cut.Frames → L) → ByCut e F L
put_at F L cut.Frames f l = (f, l refl)
put_at F L cut.Report f l = f

pub all_of : {T : Type 0} (A F L : Type 0) (r : Result T Cut) → ByAnswer r A F L → OnOk r A
all_of A F L (Ok x) h = h
all_of A F L (Err e) h = tt

pub front_of : {T : Type 0} (A F L : Type 0) (r : Result T Cut) → ByAnswer r A F L → OnErr r F
front_of A F L (Ok x) h = tt
front_of A F L (Err e) h = front_at F L e h

pub lines_of : {T : Type 0} (A F L : Type 0) (r : Result T Cut) → ByAnswer r A F L → IsErrOf r cut.Frames → L
lines_of A F L (Ok x) h is = absurd cc
lines_of A F L (Err e) h is = lines_at F L e h is

-- ---- a batch

none_alone : (aside : Option answer.Verdict) (loads : List (List ℕ)) → IsAlone aside loads false → aside ≡ None
none_alone None loads h = refl
none_alone (Some a) loads h = absurd (search rules)

-- before a word is completed in a period no answer stands aside
pub none_aside : (b : Batching) → IsAlone b.aside b.crew.loads b.late → b.late ≡ false → b.aside ≡ None
none_aside b h e = none_alone b.aside b.crew.loads (subst (λ (l : Bool). IsAlone b.aside b.crew.loads l) e h)

take_ready : (aside : Option answer.Verdict) (block : List ℕ) (c : Crewing) (late : Bool) → IsAlone aside c.loads late
    → take (length (completed aside block ++ loaded_verdicts c) - (if late then 1 else 0)) (completed aside block ++ loaded_verdicts c)
    ≡ take (length c.loads - (if late then 1 else 0)) (loaded_verdicts c)
take_ready None block c late h = ap (λ k. take (k - (if late then 1 else 0)) (loaded_verdicts c)) (length-loaded c)
take_ready (Some a) block c late h =
    let none : loaded_verdicts c ≡ [] = ap (map (verdict_of c.parameters)) h.0 in
    rw (h.1, none) (sym (take_all (length c.loads - 1) [] (omega arith)))

-- the verdicts on words of whole periods are those on the first loaded words
pub ready_is : (b : Batching) → IsAlone b.aside b.crew.loads b.late → ready b ≡ take (length b.crew.loads - late_count b) (loaded_verdicts b.crew)
ready_is b h = take_ready b.aside b.block b.crew b.late h

-- a word is loaded
pub word_loaded : (b : Batching) (sums : List ℕ) (decoded : Bool) (all whole : List Verdict) (f f' r r' : Option (List ℕ)) → HasBatched b all whole f f' r r' → b.late ≡ false
    → HasBatched (record b { crew = record b.crew { loads = b.crew.loads ++ sums ∷ []; decoded = decoded }; late = true }) (all ++ verdict_of b.crew.parameters sums ∷ []) all f f' r r'
word_loaded b sums decoded all whole f f' r r' h early =
    let v : Verdict = verdict_of b.crew.parameters sums in
    let w : completed b.aside b.block ++ map (verdict_of b.crew.parameters) (b.crew.loads ++ sums ∷ []) ≡ waiting b ++ v ∷ [] =
    ap (λ (l : List Verdict). completed b.aside b.block ++ l) (map_push (verdict_of b.crew.parameters) b.crew.loads sums)
    ∙ sym (append_assoc (completed b.aside b.block) (loaded_verdicts b.crew) (v ∷ [])) in
    let long : length (waiting b ++ v ∷ []) ≡ length (waiting b) + 1 = length_push (waiting b) v in
    let front : take (length (waiting b ++ v ∷ []) - 1) (waiting b ++ v ∷ []) ≡ waiting b = take_at (waiting b) (v ∷ []) (length (waiting b ++ v ∷ []) - 1) (omega arith) in
    record {
      put = h.put;
      delivered = h.delivered;
      all_are = ap (λ (l : List Verdict). l ++ v ∷ []) h.all_are ∙ append_assoc h.put (waiting b) (v ∷ []) ∙ ap (λ (l : List Verdict). h.put ++ l) (sym w);
      whole_are = h.all_are ∙ ap (λ (l : List Verdict). h.put ++ l) (sym (ap (λ (l : List Verdict). take (length l - 1) l) w ∙ front));
      some = subst (λ (l : List Verdict). 1 ≤ length l) (sym w) (omega arith);
      alone = subst (λ (a : Option answer.Verdict). IsAlone a (b.crew.loads ++ sums ∷ []) true) (sym (none_aside b h.alone early)) tt;
      outlet = h.outlet;
    }

-- the words before the last one of a full crew, where none stands aside, are all that were completed before it
pub before_last : (b : Batching) (sums : List ℕ) (decoded : Bool) (last : ℕ) (all whole : List Verdict) (f f' r r' : Option (List ℕ)) (h : HasBatched b all whole f f' r r') → b.late ≡ false
    → last ≡ length b.crew.loads → h.put ++ take last (loaded_verdicts (record b.crew { loads = b.crew.loads ++ sums ∷ []; decoded = decoded })) ≡ all
before_last b sums decoded last all whole f f' r r' h early e =
    let v : Verdict = verdict_of b.crew.parameters sums in
    ap (λ (l : List Verdict). h.put ++ l)
    (ap (take last) (map_push (verdict_of b.crew.parameters) b.crew.loads sums)
    ∙ take_at (loaded_verdicts b.crew) (v ∷ []) last (length-loaded b.crew ∙ sym e)
    ∙ ap (λ (a : Option answer.Verdict). completed a b.block ++ loaded_verdicts b.crew) (sym (none_aside b h.alone early)))
    ∙ sym h.all_are

-- the last one stands aside
pub word_aside : (b : Batching) (outlet : Delivering) (a : answer.Verdict) (sums block : List ℕ) (decoded : Bool) (all : List Verdict) (f f' r r' : Option (List ℕ))
    → HasDelivered outlet all f f' r r' → outlet.scan.parameters ≡ b.crew.parameters → verdict_with a block ≡ verdict_of b.crew.parameters sums
    → HasBatched (record { crew = record b.crew { loads = []; decoded = decoded }; aside = Some a; block = block; late = true; outlet = outlet }) (all ++ verdict_of b.crew.parameters sums ∷ []) all f f' r r'
word_aside b outlet a sums block decoded all f f' r r' d same e = record {
  put = all;
  delivered = d;
  all_are = ap (λ (v : Verdict). all ++ v ∷ []) (sym e);
  whole_are = sym (append-nil all);
  some = omega arith;
  alone = (refl, refl);
  outlet = same;
}

-- ---- the end of a period

-- no answer stands aside
pub settled_none : (b : Batching) (empty : Option answer.Verdict) (all whole : List Verdict) (f f' r r' : Option (List ℕ)) → HasBatched b all whole f f' r r' → b.aside ≡ None → empty ≡ None
    → HasBatched (record b { aside = empty; late = false }) all all f f' r r'
settled_none b empty all whole f f' r r' h none is =
    let w : waiting b ≡ loaded_verdicts b.crew = ap (λ (a : Option answer.Verdict). completed a b.block ++ loaded_verdicts b.crew) none in
    let here : all ≡ h.put ++ loaded_verdicts b.crew = h.all_are ∙ ap (λ (l : List Verdict). h.put ++ l) w in
    subst (λ (x : Option answer.Verdict). HasBatched (record b { aside = x; late = false }) all all f f' r r') (sym is)
    (record {
      put = h.put;
      delivered = h.delivered;
      all_are = here;
      whole_are = here ∙ ap (λ (l : List Verdict). h.put ++ l) (sym (take_all (length (loaded_verdicts b.crew) - 0) (loaded_verdicts b.crew) (omega arith)));
      some = omega arith;
      alone = tt;
      outlet = h.outlet;
    })

alone_some : (aside : Option answer.Verdict) (a : answer.Verdict) (loads : List (List ℕ)) (late : Bool) → aside ≡ Some a → IsAlone aside loads late → (loads ≡ []) × (late ≡ true)
alone_some None a loads late e h = absurd (search rules)
alone_some (Some x) a loads late e h = h

-- the one that stands aside is the last of all
pub all_aside : (b : Batching) (a : answer.Verdict) (block : List ℕ) (all whole : List Verdict) (f f' r r' : Option (List ℕ)) (h : HasBatched b all whole f f' r r') → b.aside ≡ Some a → block ≡ b.block
    → h.put ++ verdict_with a block ∷ [] ≡ all
all_aside b a block all whole f f' r r' h some same =
    let none : b.crew.loads ≡ [] = (alone_some b.aside a b.crew.loads b.late some h.alone).0 in
    ap (λ (bits : List ℕ). h.put ++ verdict_with a bits ∷ []) same
    ∙ ap₂ (λ (x : Option answer.Verdict) (l : List (List ℕ)). h.put ++ (completed x b.block ++ map (verdict_of b.crew.parameters) l)) (sym some) (sym none) ∙ sym h.all_are

-- and put
pub settled_aside : (b : Batching) (a : answer.Verdict) (empty : Option answer.Verdict) (outlet : Delivering) (all whole : List Verdict) (f f' g g' r r' t t' : Option (List ℕ)) → HasBatched b all whole f f' r r' → b.aside ≡ Some a → empty ≡ None
    → HasDelivered outlet all g g' t t' → outlet.scan.parameters ≡ b.outlet.scan.parameters
    → HasBatched (record b { aside = empty; late = false; outlet = outlet }) all all g g' t t'
settled_aside b a empty outlet all whole f f' g g' r r' t t' h some is d same =
    let none : b.crew.loads ≡ [] = (alone_some b.aside a b.crew.loads b.late some h.alone).0 in
    let nothing : loaded_verdicts b.crew ≡ [] = ap (map (verdict_of b.crew.parameters)) none in
    subst (λ (x : Option answer.Verdict). HasBatched (record b { aside = x; late = false; outlet = outlet }) all all g g' t t') (sym is)
    (record {
      put = all;
      delivered = d;
      all_are = sym (append-nil all) ∙ ap (λ (l : List Verdict). all ++ l) (sym nothing);
      whole_are = sym (append-nil all) ∙ ap (λ (l : List Verdict). all ++ l) (sym (ap (λ (l : List Verdict). take (length l - 0) l) nothing));
      some = omega arith;
      alone = tt;
      outlet = same ∙ h.outlet;
    })

-- ---- the end of the stream

pub whole_is : (b : Batching) (count : ℕ) (all whole : List Verdict) (f f' r r' : Option (List ℕ)) (h : HasBatched b all whole f f' r r') → count ≡ length b.crew.loads - late_count b
    → h.put ++ take count (loaded_verdicts b.crew) ≡ whole
whole_is b count all whole f f' r r' h e =
    ap (λ (l : List Verdict). h.put ++ l) (ap (λ k. take k (loaded_verdicts b.crew)) e ∙ sym (ready_is b h.alone)) ∙ sym h.whole_are

-- nothing waits
pub finished_none : (b : Batching) (count : ℕ) (all whole : List Verdict) (f f' r r' : Option (List ℕ)) → HasBatched b all whole f f' r r' → count ≡ length b.crew.loads - late_count b → count ≡ 0
    → HasDelivered b.outlet whole f f' r r'
finished_none b count all whole f f' r r' h e zero =
    subst (λ (vs : List Verdict). HasDelivered b.outlet vs f f' r r')
    (sym (append-nil h.put) ∙ ap (λ k. h.put ++ take k (loaded_verdicts b.crew)) (sym zero) ∙ whole_is b count all whole f f' r r' h e) h.delivered

-- a batch before its first word
pub batched_none : (b : Batching) (f r : Option (List ℕ)) → b.aside ≡ None → b.crew.loads ≡ [] → b.late ≡ false → HasDelivered b.outlet [] f f r r → b.outlet.scan.parameters ≡ b.crew.parameters
    → HasBatched b [] [] f f r r
batched_none b f r none empty early d same =
    let w : waiting b ≡ [] = ap₂ (λ (x : Option answer.Verdict) (l : List (List ℕ)). completed x b.block ++ map (verdict_of b.crew.parameters) l) none empty in
    record {
      put = [];
      delivered = d;
      all_are = sym w;
      whole_are = sym (ap (λ (l : List Verdict). take (length l - late_count b) l) w ∙ take_all (0 - late_count b) [] (omega arith));
      some = subst (λ (l : Bool). (if l then 1 else 0) ≤ length (waiting b)) (sym early) (omega arith);
      alone = subst (λ (a : Option answer.Verdict). IsAlone a b.crew.loads b.late) (sym none) tt;
      outlet = same;
    }

-- ---- the loop over the first words of a crew

-- an outlet has delivered these verdicts since it was as it was
abbrev pub Delivers : Delivering → Delivering → Option (List ℕ) → Option (List ℕ) → Option (List ℕ) → Option (List ℕ) → List Verdict → Type 0
Delivers before after written0 written told0 told new =
    (verdicts : List Verdict) (start begin : Option (List ℕ)) → HasDelivered before verdicts start written0 begin told0 → HasDelivered after (verdicts ++ new) start written begin told

pub delivers_none : (o : Delivering) (c : Crewing) (w t : Option (List ℕ)) → Delivers o o w w t t (take 0 (loaded_verdicts c))
delivers_none o c w t = λ verdicts start begin h. subst (λ (vs : List Verdict). HasDelivered o vs start w begin t) (sym (append-nil verdicts)) h

pub delivers_more : (o0 o o' : Delivering) (c : Crewing) (a : answer.Verdict) (block : List ℕ) (i : ℕ) (w0 w w' t0 t t' : Option (List ℕ)) → i < length c.loads → verdict_with a block ≡ loaded_verdict c i
    → Delivers o0 o w0 w t0 t (take i (loaded_verdicts c))
    → ((verdicts : List Verdict) (start begin : Option (List ℕ)) → HasDelivered o verdicts start w begin t → HasDelivered o' (verdicts ++ verdict_with a block ∷ []) start w' begin t')
    → Delivers o0 o' w0 w' t0 t' (take (i + 1) (loaded_verdicts c))
delivers_more o0 o o' c a block i w0 w w' t0 t t' b e was next = λ verdicts start begin h.
    subst (λ (vs : List Verdict). HasDelivered o' vs start w' begin t')
    (ap (λ (v : Verdict). (verdicts ++ take i (loaded_verdicts c)) ++ v ∷ []) e ∙ sym (first_more c verdicts i b))
    (next (verdicts ++ take i (loaded_verdicts c)) start begin (was verdicts start begin h))

-- what was put where one of them was cut off
pub puts_first : (p q : Parameters) (c : Crewing) (a : answer.Verdict) (block : List ℕ) (verdicts : List Verdict) (i n : ℕ) (f f' r r' : Option (List ℕ)) → q ≡ p → i < n → n ≤ length c.loads
    → verdict_with a block ≡ loaded_verdict c i → PutsPart q ((verdicts ++ take i (loaded_verdicts c)) ++ verdict_with a block ∷ []) f f' r r' → PutsPart p (verdicts ++ take n (loaded_verdicts c)) f f' r r'
puts_first p q c a block verdicts i n f f' r r' same b within e h =
    puts_front p (verdicts ++ take (i + 1) (loaded_verdicts c)) (take (n - (i + 1)) (drop (i + 1) (loaded_verdicts c))) (verdicts ++ take n (loaded_verdicts c)) f f' r r'
    (first_front c verdicts (i + 1) n (omega arith))
    (subst (λ (x : Parameters). PutsPart x (verdicts ++ take (i + 1) (loaded_verdicts c)) f f' r r') same
    (subst (λ (vs : List Verdict). PutsPart q vs f f' r r') (ap (λ (v : Verdict). (verdicts ++ take i (loaded_verdicts c)) ++ v ∷ []) e ∙ sym (first_more c verdicts i (omega arith))) h))

pub lines_first : (c : Crewing) (verdicts : List Verdict) (i n : ℕ) (begin told : Option (List ℕ)) → i < n → told ≡ append_known begin (word_lines 0 (verdicts ++ take i (loaded_verdicts c)))
    → PutsLines (verdicts ++ take n (loaded_verdicts c)) begin told
lines_first c verdicts i n begin told b h =
    lines_of_front (verdicts ++ take i (loaded_verdicts c)) (take (n - i) (drop i (loaded_verdicts c))) (verdicts ++ take n (loaded_verdicts c)) begin told (first_front c verdicts i n (omega arith)) h
