-- JSON data that is parsed back from its compact text.
use Rattle.std.specs.Prelude.{◌≡◌, ◌≤◌, ℕ, ◌^◌, ◌<◌, pos, negsuc, List, ⊤, Some}
use Rattle.std.specs.Ordering.{nat_cmp}
use Rattle.std.specs.declared.cmp.Ordering.TheVariants.{Less}
use Rattle.std.specs.Cmp.Lexicographic.{slice_cmp}
use Rattle.serde_json.specs.Data.{Num, unsigned, negative, float, Data, null, boolean, number, string}
use Rattle.serde_json.specs.Data.{array, object, Items, no_items, item, Members, no_members, member, depth}
use Rattle.serde_json.specs.Read.{read}
use Rattle.serde_json.specs.Written.{compact_text}

-- the number is a signed or unsigned 64-bit integer
abbrev pub IsInteger : Num → Type 0
IsInteger (unsigned n) = n < 2 ^ 64
IsInteger (negative (pos n)) = ⊥
IsInteger (negative (negsuc n)) = n < 2 ^ 63
IsInteger (float x) = ⊥

-- the name precedes each name of the members in byte order
abbrev pub IsBelow : List ℕ → Members → Type 0
IsBelow name no_members = ⊤
IsBelow name (member other d ms) = (slice_cmp nat_cmp name other ≡ Less) × IsBelow name ms

-- the data is well-formed: its numbers are 64-bit integers, and the names of each object are in strict byte order
abbrev mutual
  pub IsWhole : Data → Type 0
  IsWhole null = ⊤
  IsWhole (boolean b) = ⊤
  IsWhole (number n) = IsInteger n
  IsWhole (string s) = ⊤
  IsWhole (array ds) = ItemsAreWhole ds
  IsWhole (object ms) = MembersAreWhole ms

  pub ItemsAreWhole : Items → Type 0
  ItemsAreWhole no_items = ⊤
  ItemsAreWhole (item d ds) = IsWhole d × ItemsAreWhole ds

  pub MembersAreWhole : Members → Type 0
  MembersAreWhole no_members = ⊤
  MembersAreWhole (member name d ms) = IsWhole d × IsBelow name ms × MembersAreWhole ms

-- well-formed data at most 127 levels deep, the limit of serde_json, is parsed back from its compact text
abbrev pub ReadsBack : Type 0
ReadsBack = (d : Data) → IsWhole d → depth d ≤ 127 → read (compact_text d) ≡ Some d

-- a text is the compact text of at most one well-formed data
abbrev pub TextsTellData : Type 0
TextsTellData = (d e : Data) → IsWhole d → IsWhole e → depth d ≤ 127 → depth e ≤ 127 → compact_text d ≡ compact_text e → d ≡ e
