-- Tests on the entries of a table and on the values of a list, and the table of a text.
use Rattle.std.proofs.Common.{◌≡◌, ◌&&◌, ℕ, List, [], ◌∷◌, Bool, true, false, Some, None, Err, refl, ap, string_bytes, String, Global}
use Rattle.std.specs.List.{list_all}
use Rattle.std.specs.Map.{keys_of}
use Rattle.std.specs.Str.{IsUtf8, is_utf8}
use Rattle.std.proofs.lemmas.Str.{IsUtf8-from_is_utf8, is_utf8-from_IsUtf8}
use Rattle.hpe_base.specs.Validity.{profile_of}
use Rattle.hpe_profile.specs.declared.fault.ReadFault.{ReadFault}
use Rattle.hpe_profile.specs.declared.fault.ReadFault.TheVariants as fault
use Rattle.toml.specs.Parse.{parse_document}
use Rattle.toml.specs.Data.{Members}
use Rattle.toml.specs.View.{view, items_view, members_view}
use Rattle.toml.specs.declared.value.Value.{Value}
use Rattle.hpe_profile.specs.ProfileText.{all_keys, names_key, knows_all, is_integer, are_integers, table_of, first_refusal, profile_of_table, with_cause, fields_in}

-- the keys of a table are those of its entries
pub knows_entries : (es : List (String Global × Value))
    → list_all (λ name. names_key all_keys (string_bytes name)) (keys_of es) ≡ knows_all (members_view es)
knows_entries [] = refl
knows_entries (e ∷ es) = ap (λ b. names_key all_keys (string_bytes e.0) && b) (knows_entries es)

-- the values of a list are its items
pub integers_each : (vs : List Value) → list_all (λ value. is_integer (view value)) vs ≡ are_integers (items_view vs)
integers_each [] = refl
integers_each (v ∷ vs) = ap (λ b. is_integer (view v) && b) (integers_each vs)

-- a text that is read
pub table_read : (text : List ℕ) (table : Members) → IsUtf8 text → parse_document text ≡ Some table
    → table_of text ≡ Some table
table_read text table utf8 read = rw (is_utf8-from_IsUtf8 text utf8) read

-- a text that is refused
pub table_refused : (text : List ℕ) → (IsUtf8 text → parse_document text ≡ None) → table_of text ≡ None
table_refused text refused = go (is_utf8 text) refl
  where
    go : (b : Bool) → is_utf8 text ≡ b → table_of text ≡ None
    go true e = rw e (refused (IsUtf8-from_is_utf8 text e))
    go false e = rw e refl

-- a table with an unknown key
pub unknown_table : (table : Members) → knows_all table ≡ false → profile_of_table table ≡ Err fault.Unknown
unfolding profile_of_table
unknown_table table unknown = rw unknown refl

-- a table with a value that is refused
pub refused_table : (table : Members) (e : ReadFault) → knows_all table ≡ true → first_refusal table all_keys ≡ Some e
    → profile_of_table table ≡ Err e
unfolding profile_of_table
refused_table table e known refused = rw (known, refused) refl

-- a table of which no value is refused
pub whole_table : (table : Members) → knows_all table ≡ true → first_refusal table all_keys ≡ None
    → profile_of_table table ≡ with_cause (profile_of (fields_in table))
unfolding profile_of_table
whole_table table known none = rw (known, none) refl
