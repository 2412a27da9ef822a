use Rattle.std.proofs.Common.{◌≡◌, ◌%◌, ◌/◌, ◌∙◌, ◌++◌, arith, ap, ℤ, List, take}
use Rattle.std.proofs.Math.Nat.{mul-mod_left}
use Rattle.std.proofs.lemmas.List.{take-append-le, take_all}
use Rattle.hpe_base.specs.Parameters.{codeword_symbols, symbol_bits}
use Rattle.hpe_base.specs.Sizes.{number_at}
use Rattle.hpe_base.proofs.ParameterLemmas.{codeword_symbols-ge, symbols_fill}
use Rattle.hpe_uses.proofs.soft_values.counted.Goals as goal

pub inner_soft-requires-clause-whole : goal.inner_soft-requires-clause-whole
inner_soft-requires-clause-whole g c =
    let o = c.args.order in
    ap (λ n. n % symbol_bits o) (c.requires.numbers ∙ symbols_fill o) ∙ mul-mod_left (codeword_symbols o) (symbol_bits o)

pub inner_soft-requires-clause-some : goal.inner_soft-requires-clause-some
inner_soft-requires-clause-some g c =
    let o = c.args.order in
    omega (arith, codeword_symbols-ge o, ap (λ n. n / symbol_bits o) c.requires.numbers)

pub returns-clause-soft : goal.returns-clause-soft
returns-clause-soft g c = λ j h.
    let soft : List ℤ = c.inner_soft.new.out in
    let whole : take c.in_ok-soft.soft.len (soft ++ _) ≡ soft = take-append-le c.in_ok-soft.soft.len soft _ (omega arith) ∙ take_all c.in_ok-soft.soft.len soft (omega arith) in
    ap (λ (xs : List ℤ). number_at xs j) whole ∙ c.inner_soft.ensures.soft j (omega arith)
