-- The profile that a text names, or why it names none.
use Rattle.std.specs.Prelude.{◌≡◌, if◌then◌else◌, ℕ, ℤ, pos, ◌+◌, ◌*◌, ◌/◌, ◌%◌, Bool, true, false, ◌&&◌, ◌||◌, List, [], ◌∷◌, Option, Some, None, Result, Ok, Err, is_some, unwrap_or, option_and_then, codes, bytes_eq}
use Rattle.std.specs.Str.{is_utf8}
use Rattle.std.specs.Borrow.{Bor}
use Rattle.toml.specs.Data.{Data, Items, no_items, item, Members, no_members, member, get_member, as_integer, as_str, as_array}
use Rattle.toml.specs.Parse.{parse_document}
use Rattle.hpe_base.specs.Lists.{tabulate}
use Rattle.hpe_base.specs.Parameters.{Parameters, positions}
use Rattle.hpe_base.specs.Validity.{profile_of, order_of, rate_of}
use Rattle.hpe_base.specs.declared.profile.Order.{Order}
use Rattle.hpe_base.specs.declared.profile.Order.TheVariants.{P4}
use Rattle.hpe_base.specs.declared.profile.Rate.{Rate}
use Rattle.hpe_base.specs.declared.profile.Rate.TheVariants.{Third, Half, TwoThirds}
use Rattle.hpe_base.specs.declared.fault.Key.{Key}
use Rattle.hpe_base.specs.declared.fault.Key.TheVariants as key
use Rattle.hpe_base.specs.declared.fault.ProfileFault.{ProfileFault}
use Rattle.hpe_base.specs.declared.fields.Fields.{Fields}
use Rattle.hpe_profile.specs.declared.fault.ReadFault.{ReadFault}
use Rattle.hpe_profile.specs.declared.fault.ReadFault.TheVariants as fault

-- ---- keys

-- the keys, in the order in which they are looked at
abbrev pub all_keys : List Key
all_keys =
    key.Order ∷ key.Rate ∷ key.FrameOctets ∷ key.FrameMarker ∷ key.Taps ∷ key.Seed ∷ key.Check
    ∷ key.Columns ∷ key.Rows ∷ key.Delay ∷ key.Marker ∷ key.Repeat ∷ key.Rounds ∷ key.Search
    ∷ key.CountOctets ∷ key.Scale ∷ []

-- the key as it is written
abbrev pub key_name : Key → List ℕ
key_name key.Order = codes "order"
key_name key.Rate = codes "rate"
key_name key.FrameOctets = codes "frame_octets"
key_name key.FrameMarker = codes "frame_marker"
key_name key.Taps = codes "taps"
key_name key.Seed = codes "seed"
key_name key.Check = codes "check"
key_name key.Columns = codes "columns"
key_name key.Rows = codes "rows"
key_name key.Delay = codes "delay"
key_name key.Marker = codes "marker"
key_name key.Repeat = codes "repeat"
key_name key.Rounds = codes "rounds"
key_name key.Search = codes "search"
key_name key.CountOctets = codes "count_octets"
key_name key.Scale = codes "scale"

-- whether a profile must have the key
abbrev pub is_required : Key → Bool
is_required key.Order = true
is_required key.Rate = true
is_required _ = false

-- whether some key is written so
abbrev pub names_key : List Key → List ℕ → Bool
names_key [] name = false
names_key (k ∷ ks) name = bytes_eq name (key_name k) || names_key ks name

-- whether each key of the table is one of a profile
abbrev pub knows_all : Members → Bool
knows_all no_members = true
knows_all (member name value rest) = names_key all_keys name && knows_all rest

-- ---- kinds

abbrev pub is_integer : Data → Bool
is_integer value = is_some (as_integer value)

abbrev pub are_integers : Items → Bool
are_integers no_items = true
are_integers (item value rest) = is_integer value && are_integers rest

abbrev pub is_integer_list : Option Items → Bool
is_integer_list None = false
is_integer_list (Some items) = are_integers items

-- whether the value of the key is of its kind: a text, a list of whole numbers or a whole number
abbrev pub is_kind : Key → Data → Bool
is_kind key.Rate value = is_some (as_str value)
is_kind key.Columns value = is_some (as_str value)
is_kind key.Marker value = is_integer_list (as_array value)
is_kind _ value = is_integer value

-- why what stands at the key is refused
abbrev pub refusal_of : Key → Option Data → Option ReadFault
refusal_of k None = if is_required k then Some (fault.Missing k) else None
refusal_of k (Some value) = if is_kind k value then None else Some (fault.Kind k)

-- of keys in order, why the first is refused of those that are
unfoldable pub first_refusal : Members → List Key → Option ReadFault
first_refusal table [] = None
first_refusal table (k ∷ ks) =
    elim (refusal_of k (get_member (key_name k) table)) [ Some fault ↦ Some fault | None ↦ first_refusal table ks ]

-- ---- values, where each is of its kind; elsewhere they are of no account

abbrev pub number_at : Members → Key → ℤ → ℤ
number_at table k default = unwrap_or (option_and_then as_integer (get_member (key_name k) table)) default

abbrev pub text_at : Members → Key → List ℕ → List ℕ
text_at table k default = unwrap_or (option_and_then as_str (get_member (key_name k) table)) default

abbrev pub integers_in : Items → List ℤ
integers_in no_items = []
integers_in (item value rest) = unwrap_or (as_integer value) (pos 0) ∷ integers_in rest

abbrev pub list_or : Option Items → List ℤ → List ℤ
list_or None default = default
list_or (Some items) default = integers_in items

abbrev pub list_at : Members → Key → List ℤ → List ℤ
list_at table k default = list_or (option_and_then as_array (get_member (key_name k) table)) default

-- ---- defaults

-- the puncturing columns that keep 15,120 code bits at that rate
abbrev pub default_columns : Rate → List ℕ
default_columns Third = codes "111"
default_columns Half = codes "110"
default_columns TwoThirds = codes "110 010"

-- the codeword marker for so many pulse positions: 16 symbols, of which symbol i is 5 i (i + 1) / 2 modulo their number
abbrev pub default_marker : ℕ → List ℤ
default_marker slots = tabulate 16 (λ i. pos (5 * i * (i + 1) / 2 % slots))

-- the rate and the order that the table names
abbrev pub rate_in : Members → Rate
rate_in table = unwrap_or (rate_of (text_at table key.Rate [])) Third

abbrev pub order_in : Members → Order
order_in table = unwrap_or (order_of (number_at table key.Order (pos 0))) P4

abbrev pub columns_in : Members → List ℕ
columns_in table = text_at table key.Columns (default_columns (rate_in table))

abbrev pub marker_in : Members → List ℤ
marker_in table = list_at table key.Marker (default_marker (positions (order_in table)))

-- ---- the profile

-- a value behind a reference; where it stands plays no part
abbrev pub lent : {X : Type 0} → X → Bor X
lent value = record { ref_ptr = (0, 0); now = value }

-- the fields that a table writes, with the defaults
abbrev pub fields_in : Members → Fields
fields_in table = record {
  order = number_at table key.Order (pos 0);
  rate = lent (text_at table key.Rate []);
  frame_octets = number_at table key.FrameOctets (pos 100);
  frame_marker = number_at table key.FrameMarker (pos 0x1ACFFC1D);
  taps = number_at table key.Taps (pos 0xA9);
  seed = number_at table key.Seed (pos 255);
  check = number_at table key.Check (pos 0x20044009);
  columns = lent (columns_in table);
  rows = number_at table key.Rows (pos 1);
  delay = number_at table key.Delay (pos 1);
  marker = lent (marker_in table);
  repeat = number_at table key.Repeat (pos 1);
  rounds = number_at table key.Rounds (pos 16);
  search = number_at table key.Search (pos 1);
  count_octets = number_at table key.CountOctets (pos 1);
  scale = number_at table key.Scale (pos 8);
}

-- the fields are the same but for where their references point
pub record IsAlike (f g : Fields) : Type 0 where
  pub order : f.order ≡ g.order
  pub rate : f.rate.now ≡ g.rate.now
  pub frame_octets : f.frame_octets ≡ g.frame_octets
  pub frame_marker : f.frame_marker ≡ g.frame_marker
  pub taps : f.taps ≡ g.taps
  pub seed : f.seed ≡ g.seed
  pub check : f.check ≡ g.check
  pub columns : f.columns.now ≡ g.columns.now
  pub rows : f.rows ≡ g.rows
  pub delay : f.delay ≡ g.delay
  pub marker : f.marker.now ≡ g.marker.now
  pub repeat : f.repeat ≡ g.repeat
  pub rounds : f.rounds ≡ g.rounds
  pub search : f.search ≡ g.search
  pub count_octets : f.count_octets ≡ g.count_octets
  pub scale : f.scale ≡ g.scale

abbrev pub with_cause : Result Parameters ProfileFault → Result Parameters ReadFault
with_cause (Ok p) = Ok p
with_cause (Err e) = Err (fault.Profile e)

-- the profile of the fields in a table of which no value is refused
abbrev pub profile_without : Option ReadFault → Members → Result Parameters ReadFault
profile_without (Some refusal) table = Err refusal
profile_without None table = with_cause (profile_of (fields_in table))

-- the profile that a table names: unknown keys are looked for first, then each key in order
unfoldable pub profile_of_table : Members → Result Parameters ReadFault
profile_of_table table =
    if knows_all table then profile_without (first_refusal table all_keys) table else Err fault.Unknown

-- the table that the octets write, where they are a document
abbrev pub table_of : List ℕ → Option Members
table_of text = if is_utf8 text then parse_document text else None

abbrev pub profile_of_document : Option Members → Result Parameters ReadFault
profile_of_document None = Err fault.Text
profile_of_document (Some table) = profile_of_table table

-- the profile that the octets of a text name
unfoldable pub profile_of_text : List ℕ → Result Parameters ReadFault
profile_of_text text = profile_of_document (table_of text)
