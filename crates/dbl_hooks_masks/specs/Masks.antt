-- What a mask makes of a text.
use Rattle.std.specs.Prelude.{ℕ, List, length, take, min, replicate, chars, encode_utf8_all}
use Rattle.std.specs.Str.{byte}
use Rattle.dbl_hooks_masks.specs.declared.mask.Mask.{Mask}
use Rattle.dbl_hooks_masks.specs.declared.mask.Mask.TheVariants.{Stars, First}

-- An asterisk for each character of a text, at most so many.
unfoldable pub stars : ℕ → List ℕ → List ℕ
stars most text = replicate (min most (length (chars text))) (byte "*")

-- The mask of a text: so many asterisks, or its first characters.
abbrev pub masked : Mask → List ℕ → List ℕ
masked (Stars most) text = stars most text
masked (First most) text = encode_utf8_all (take most (chars text))
