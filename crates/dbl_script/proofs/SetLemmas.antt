-- The words before `set`, and those after it.
use Rattle.std.proofs.Common.{◌≡◌, ◌∙◌, ℕ, true, false, List, [], ◌∷◌, refl, ap}
use Rattle.dbl_script.specs.Grammar.{is_set, before_set, words_after_set}

pub before_goes_on : (words next : List (List ℕ)) (word : List ℕ) → words ≡ word ∷ next → is_set word ≡ false → before_set words ≡ word ∷ before_set next
before_goes_on words next word is other = ap before_set is ∙ rw other refl

pub after_goes_on : (words next : List (List ℕ)) (word : List ℕ) → words ≡ word ∷ next → is_set word ≡ false → words_after_set words ≡ words_after_set next
after_goes_on words next word is other = ap words_after_set is ∙ rw other refl

pub before_ends : (words next : List (List ℕ)) (word : List ℕ) → words ≡ word ∷ next → is_set word ≡ true → before_set words ≡ []
before_ends words next word is set = ap before_set is ∙ rw set refl
