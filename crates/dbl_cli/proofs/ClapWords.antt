-- How clap cuts the words of an item.
use Rattle.std.proofs.Common.{◌≡◌, ℕ, zero, suc, ◌==◌, false, List, [], ◌∷◌, ◌++◌, Some, None, codes, refl, ap, arith}
use Rattle.std.specs.Str.{bytes_eq}
use Rattle.std.proofs.lemmas.Bool.{or_parts, eqb-false}
use Rattle.clap.specs.Lexer.{long_of, short_of, has_byte}
use Rattle.clap.proofs.CutLemmas.{Lacks}
use Rattle.clap.proofs.LexerLemmas.{name_and_value-at, name_and_value-without}
use Rattle.dbl_cli.specs.Items.{dashed, is_dashed}

pub Lacks-from_none : (c : ℕ) (xs : List ℕ) → has_byte c xs ≡ false → Lacks c xs
Lacks-from_none c [] none i lt = absurd (omega arith)
Lacks-from_none c (x ∷ xs) none zero lt = eqb-false x c (or_parts (x == c) (has_byte c xs) none).0
Lacks-from_none c (x ∷ xs) none (suc i) lt = Lacks-from_none c xs (or_parts (x == c) (has_byte c xs) none).1 i (omega arith)

-- the name of a flag or option: some bytes, none of them `=`
pub record IsPlainName (name : List ℕ) : Type 0 where
  pub first : ℕ
  pub others : List ℕ
  pub some : name ≡ first ∷ others
  pub whole : has_byte 61 name ≡ false

-- ---- `--<name>`

bare_text : (c : ℕ) (cs : List ℕ) → has_byte 61 (c ∷ cs) ≡ false → long_of (dashed (c ∷ cs)) ≡ Some (c ∷ cs, None)
bare_text c cs whole = ap Some (name_and_value-without (c ∷ cs) (Lacks-from_none 61 (c ∷ cs) whole))

pub bare_long : (name : List ℕ) → IsPlainName name → long_of (dashed name) ≡ Some (name, None)
bare_long name p = rw p.some (bare_text p.first p.others (rw p.some at p.whole))

pub bare_dash : (name : List ℕ) → IsPlainName name → bytes_eq (dashed name) (45 ∷ 45 ∷ []) ≡ false
bare_dash name p = rw p.some refl

-- ---- `--<name>=<value>`

joined_text : (c : ℕ) (cs value : List ℕ) → has_byte 61 (c ∷ cs) ≡ false → long_of (dashed (c ∷ cs) ++ (codes "=" ++ value)) ≡ Some (c ∷ cs, Some value)
joined_text c cs value whole = ap Some (name_and_value-at (c ∷ cs) value (Lacks-from_none 61 (c ∷ cs) whole))

pub joined_long : (name value : List ℕ) → IsPlainName name → long_of (dashed name ++ (codes "=" ++ value)) ≡ Some (name, Some value)
joined_long name value p = rw p.some (joined_text p.first p.others value (rw p.some at p.whole))

pub joined_dash : (name value : List ℕ) → IsPlainName name → bytes_eq (dashed name ++ (codes "=" ++ value)) (45 ∷ 45 ∷ []) ≡ false
joined_dash name value p = rw p.some refl

-- ---- a word that doesn't begin with `-`

pub plain_dash : (word : List ℕ) → is_dashed word ≡ false → bytes_eq word (45 ∷ 45 ∷ []) ≡ false
plain_dash [] plain = refl
plain_dash (c ∷ cs) plain = rw plain refl

pub plain_long : (word : List ℕ) → is_dashed word ≡ false → long_of word ≡ None
plain_long [] plain = refl
plain_long (c ∷ cs) plain = rw plain refl

pub plain_short : (word : List ℕ) → is_dashed word ≡ false → short_of word ≡ None
plain_short [] plain = refl
plain_short (c ∷ cs) plain = rw plain refl
