-- For private clauses: the product's own check of the arguments.
use Rattle.std.specs.Prelude.{ℕ, ◌==◌, ◌&&◌, not, nat_le, Bool, true, false, if◌then◌else◌, Option, Some, None, List, [], ◌∷◌, length, drop}
use Rattle.std.specs.List.{list_any, before_first, prefix_len}
use Rattle.dbl_cli.specs.declared.items.Next.{Next}
use Rattle.dbl_cli.specs.declared.items.Next.TheVariants.{Item, Value, Stop, Bad}
use Rattle.dbl_cli.specs.Items.{Named, has_value, is_dashed}

-- the byte is `=`
abbrev pub is_equals : ℕ → Bool
is_equals c = c == 61

-- the rest of an argument after two hyphens
abbrev pub after_hyphens : List ℕ → Option (List ℕ)
after_hyphens [] = None
after_hyphens (a ∷ []) = None
after_hyphens (a ∷ b ∷ rest) = if a == 45 && b == 45 then Some rest else None

-- the role of an argument, given whether it has a `=`, and whether its name takes a value
abbrev pub kind_by : Bool → Option Bool → Next
kind_by joined None = Bad
kind_by joined (Some has) = if has then (if joined then Item else Value) else (if joined then Bad else Item)

-- the role of an argument, given the rest after its hyphens
abbrev pub kind_in : List Named → Option (List ℕ) → Next
kind_in names None = Bad
kind_in names (Some rest) = kind_by (list_any is_equals rest) (has_value names (before_first is_equals rest))

-- the role of an argument that begins with `-`, as the first of an item
abbrev pub kind_of : List Named → List ℕ → Next
kind_of names word = kind_in names (after_hyphens word)

-- the role of an argument after others, of which the last may be an option that awaits its value
abbrev pub next_of : List Named → Bool → List ℕ → Next
next_of names waits word = if waits then (if is_dashed word then Bad else Item) else (if is_dashed word then kind_of names word else Stop)

-- the choice of a result by the role of an argument
abbrev pub by_next : {A : Type 0} → Next → Option A → Option A → Option A → Option A
by_next Item item value stop = item
by_next Value item value stop = value
by_next Stop item value stop = stop
by_next Bad item value stop = None

-- The arguments after the leading flags and options, if these are known; if `waits`, the first argument is the value of an option.
unfoldable pub words_after : List Named → Bool → List (List ℕ) → Option (List (List ℕ))
words_after names waits [] = if waits then None else Some []
words_after names waits (word ∷ words) = by_next (next_of names waits word) (words_after names false words) (words_after names true words)
    (Some (word ∷ words))

-- the number of leading arguments that don't begin with `-`
abbrev pub plain_len : List (List ℕ) → ℕ
plain_len words = prefix_len (λ word. not (is_dashed word)) words

-- no arguments are left after known ones
abbrev pub is_end : Option (List (List ℕ)) → Bool
is_end None = false
is_end (Some words) = length words == 0

-- the arguments after the leading flags and options are positional ones of allowed number, followed by flags and options
abbrev pub ends_well : List Named → ℕ → ℕ → Option (List (List ℕ)) → Bool
ends_well names least most None = false
ends_well names least most (Some words) = is_end (words_after names false (drop (plain_len words) words)) && nat_le least (plain_len words)
    && nat_le (plain_len words) most

-- the arguments are a valid list of items, apart from names given twice
abbrev pub are_items : List Named → ℕ → ℕ → List (List ℕ) → Bool
are_items names least most words = ends_well names least most (words_after names false words)
