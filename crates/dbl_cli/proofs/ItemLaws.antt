-- The product's own look takes just the lists of items, but for names that are given twice.
use Rattle.std.proofs.Common.{◌≡◌, ◌∙◌, ℕ, ◌+◌, ◌==◌, ◌&&◌, ◌||◌, Bool, true, false, cond, List, [], ◌∷◌, ◌++◌, length, take, drop, Option, Some, None, codes, not, refl, sym, ap, arith, leb, append-nil}
use Rattle.std.specs.List.{list_all, list_any, before_first, after_first, position_or_len}
use Rattle.std.specs.Option.{option_map_or}
use Rattle.std.proofs.lemmas.Bool.{and_parts, and_from, not-true, not_from_false, false≢true, eqb-true}
use Rattle.std.proofs.lemmas.Bool.Decides.{nat_tests}
use Rattle.std.proofs.lemmas.Grind.{common_steps}
use Rattle.std.proofs.lemmas.List.{drop_at, take-append-drop}
use Rattle.clap.proofs.CutLemmas.{before_first-Lacks, before_first-at, list_any-Lacks, list_any-at}
use Rattle.dbl_cli.specs.declared.items.Next.{Next}
use Rattle.dbl_cli.specs.declared.items.Next.TheVariants.{Item, Value, Stop, Bad}
use Rattle.dbl_cli.specs.Items.{Setting, Flag, Joined, Apart, Named, dashed, words_in, words_of, is_dashed, has_value, is_flag, is_option, is_known}
use Rattle.dbl_cli.specs.Checks.{is_equals, after_hyphens, kind_by, kind_in, kind_of, by_next, words_after, plain_len, is_end, ends_well, are_items}
use Rattle.dbl_cli.proofs.ClapWords.{Lacks-from_none}
use Rattle.dbl_cli.proofs.ClapRuns.{AreNames, option_is, flag_is}

-- ---- one word

kind_bare : (names : List Named) → AreNames names → (name : List ℕ) (b : Bool) → has_value names name ≡ Some b → kind_of names (dashed name) ≡ cond b Value Item
kind_bare names names_are name b has =
    let lacks = Lacks-from_none 61 name (names_are.plain name b has).whole in
    (λ i. kind_by (list_any-Lacks 61 name lacks i) (has_value names (before_first-Lacks 61 name lacks i))) ∙ ap (kind_by false) has ∙ last b
  where
    last : (t : Bool) → kind_by false (Some t) ≡ cond t Value Item
    last true = refl
    last false = refl

kind_joined : (names : List Named) → AreNames names → (name value : List ℕ) → has_value names name ≡ Some true → kind_of names (dashed name ++ (codes "=" ++ value)) ≡ Item
kind_joined names names_are name value has =
    let lacks = Lacks-from_none 61 name (names_are.plain name true has).whole in
    (λ i. kind_by (list_any-at 61 name value i) (has_value names (before_first-at 61 name value lacks i))) ∙ ap (kind_by true) has

-- the parts around the first byte that passes
rejoined : (text : List ℕ) → list_any is_equals text ≡ true → text ≡ before_first is_equals text ++ (codes "=" ++ after_first is_equals text)
rejoined [] has = cc
rejoined (c ∷ cs) has = go (c == 61) refl has (λ h. rejoined cs h)
  where
    go : (b : Bool) → (c == 61) ≡ b → (b || list_any is_equals cs) ≡ true → (list_any is_equals cs ≡ true → cs ≡ before_first is_equals cs ++ (codes "=" ++ after_first is_equals cs))
        → (c ∷ cs) ≡ before_first is_equals (c ∷ cs) ++ (codes "=" ++ after_first is_equals (c ∷ cs))
    go true e h next = rw e (ap (λ n. n ∷ cs) (eqb-true c 61 e))
    go false e h next =
        let rest = next h in
        let at = position_or_len is_equals cs in
        let front : take (1 + at) (c ∷ cs) ≡ c ∷ take at cs = grind (arith, common_steps) in
        let end : drop (1 + at + 1) (c ∷ cs) ≡ drop (at + 1) cs = grind (arith, common_steps) in
        rw e (rw (front, end) (ap (λ l. c ∷ l) rest))

whole : (text : List ℕ) → list_any is_equals text ≡ false → before_first is_equals text ≡ text
whole text none = before_first-Lacks 61 text (Lacks-from_none 61 text none)

-- ---- flags and options that stand first

option_known : (names : List Named) (name : List ℕ) → has_value names name ≡ Some true → is_option names name ≡ true
option_known names name has = ap (λ o. option_map_or (λ b. b) o false) has

flag_known : (names : List Named) (name : List ℕ) → has_value names name ≡ Some false → is_flag names name ≡ true
flag_known names name has = ap (λ o. option_map_or not o false) has

after_item : (names : List Named) (word : List ℕ) (rest : List (List ℕ)) → is_dashed word ≡ true → kind_of names word ≡ Item → words_after names false (word ∷ rest) ≡ words_after names false rest
unfolding words_after
after_item names word rest dash is = rw (dash, is) refl

after_half : (names : List Named) (word value : List ℕ) (rest : List (List ℕ)) → is_dashed word ≡ true → kind_of names word ≡ Value → is_dashed value ≡ false
    → words_after names false (word ∷ value ∷ rest) ≡ words_after names false rest
unfolding words_after
after_half names word value rest dash is plain = rw (dash, is, plain) refl

-- flags and options are passed over
pub after_settings : (names : List Named) → AreNames names → (settings : List Setting) → list_all (is_known names) settings ≡ true → (rest : List (List ℕ))
    → words_after names false (words_of settings ++ rest) ≡ words_after names false rest
after_settings names names_are [] known rest = refl
after_settings names names_are (Flag name ∷ gs) known rest =
    let parts = and_parts (is_known names (Flag name)) (list_all (is_known names) gs) known in
    after_item names (dashed name) (words_of gs ++ rest) refl (kind_bare names names_are name false (flag_is names name parts.0)) ∙ after_settings names names_are gs parts.1 rest
after_settings names names_are (Joined name value ∷ gs) known rest =
    let parts = and_parts (is_known names (Joined name value)) (list_all (is_known names) gs) known in
    after_item names (dashed name ++ (codes "=" ++ value)) (words_of gs ++ rest) refl (kind_joined names names_are name value (option_is names name parts.0)) ∙ after_settings names names_are gs parts.1 rest
after_settings names names_are (Apart name value ∷ gs) known rest =
    let parts = and_parts (is_known names (Apart name value)) (list_all (is_known names) gs) known in
    let halves = and_parts (is_option names name) (not (is_dashed value)) parts.0 in
    after_half names (dashed name) value (words_of gs ++ rest) refl (kind_bare names names_are name true (option_is names name halves.0)) (not-true (is_dashed value) halves.1)
    ∙ after_settings names names_are gs parts.1 rest

-- ---- and nothing else is

pub record Front (names : List Named) (words rest : List (List ℕ)) : Type 0 where
  pub settings : List Setting
  pub written : words ≡ words_of settings ++ rest
  pub known : list_all (is_known names) settings ≡ true

pub record Valued (names : List Named) (words rest : List (List ℕ)) : Type 0 where
  pub value : List ℕ
  pub settings : List Setting
  pub written : words ≡ value ∷ (words_of settings ++ rest)
  pub plain : is_dashed value ≡ false
  pub known : list_all (is_known names) settings ≡ true

pub record OneItem (names : List Named) (word : List ℕ) : Type 0 where
  pub setting : Setting
  pub written : words_in setting ≡ word ∷ []
  pub known : is_known names setting ≡ true

pub record HalfItem (names : List Named) (word : List ℕ) : Type 0 where
  pub name : List ℕ
  pub written : word ≡ dashed name
  pub known : is_option names name ≡ true

hyphens : (word rest : List ℕ) → after_hyphens word ≡ Some rest → word ≡ dashed rest
hyphens [] rest is = cc
hyphens (a ∷ []) rest is = cc
hyphens (a ∷ b ∷ cs) rest is = go (a == 45) (b == 45) refl refl is
  where
    go : (x y : Bool) → (a == 45) ≡ x → (b == 45) ≡ y → cond (x && y) (Some cs) None ≡ Some rest → a ∷ b ∷ cs ≡ dashed rest
    go true true e f h =
        let first : a ≡ 45 = eqb-true a 45 e in
        let second : b ≡ 45 = eqb-true b 45 f in
        let same : cs ≡ rest = cc in
        (λ i. first i ∷ second i ∷ same i)
    go true false e f h = cc
    go false y e f h = cc

one_item : (names : List Named) (word : List ℕ) → kind_of names word ≡ Item → OneItem names word
one_item names word is = go (after_hyphens word) refl is
  where
    by : (rest : List ℕ) → word ≡ dashed rest → (j : Bool) (o : Option Bool) → list_any is_equals rest ≡ j → has_value names (before_first is_equals rest) ≡ o → kind_by j o ≡ Item → OneItem names word
    by rest w true (Some true) e f h = record {
      setting = Joined (before_first is_equals rest) (after_first is_equals rest);
      written = ap (λ t. dashed t ∷ []) (sym (rejoined rest e)) ∙ ap (λ t. t ∷ []) (sym w);
      known = option_known names (before_first is_equals rest) f;
    }
    by rest w true (Some false) e f h = cc
    by rest w true None e f h = cc
    by rest w false (Some true) e f h = cc
    by rest w false (Some false) e f h = record {
      setting = Flag (before_first is_equals rest);
      written = ap (λ t. dashed t ∷ []) (whole rest e) ∙ ap (λ t. t ∷ []) (sym w);
      known = flag_known names (before_first is_equals rest) f;
    }
    by rest w false None e f h = cc

    go : (o : Option (List ℕ)) → after_hyphens word ≡ o → kind_in names o ≡ Item → OneItem names word
    go None e h = cc
    go (Some rest) e h = by rest (hyphens word rest e) (list_any is_equals rest) (has_value names (before_first is_equals rest)) refl refl h

half_item : (names : List Named) (word : List ℕ) → kind_of names word ≡ Value → HalfItem names word
half_item names word is = go (after_hyphens word) refl is
  where
    by : (rest : List ℕ) → word ≡ dashed rest → (j : Bool) (o : Option Bool) → list_any is_equals rest ≡ j → has_value names (before_first is_equals rest) ≡ o → kind_by j o ≡ Value → HalfItem names word
    by rest w true (Some true) e f h = cc
    by rest w true (Some false) e f h = cc
    by rest w true None e f h = cc
    by rest w false (Some true) e f h = record {
      name = before_first is_equals rest;
      written = w ∙ ap dashed (sym (whole rest e));
      known = option_known names (before_first is_equals rest) f;
    }
    by rest w false (Some false) e f h = cc
    by rest w false None e f h = cc

    go : (o : Option (List ℕ)) → after_hyphens word ≡ o → kind_in names o ≡ Value → HalfItem names word
    go None e h = cc
    go (Some rest) e h = by rest (hyphens word rest e) (list_any is_equals rest) (has_value names (before_first is_equals rest)) refl refl h

no_stop : (names : List Named) (word : List ℕ) → kind_of names word ≡ Stop → ⊥
no_stop names word is = go (after_hyphens word) is
  where
    by : (j : Bool) (o : Option Bool) → kind_by j o ≡ Stop → ⊥
    by true (Some true) h = cc
    by true (Some false) h = cc
    by true None h = cc
    by false (Some true) h = cc
    by false (Some false) h = cc
    by false None h = cc

    go : (o : Option (List ℕ)) → kind_in names o ≡ Stop → ⊥
    go None h = cc
    go (Some rest) h = by (list_any is_equals rest) (has_value names (before_first is_equals rest)) h

-- the prefix that is passed over is flags and options
pub front_sound : (names : List Named) (words rest : List (List ℕ))
    → (words_after names false words ≡ Some rest → Front names words rest) × (words_after names true words ≡ Some rest → Valued names words rest)
unfolding words_after
front_sound names [] rest = (
  (λ h. let same : [] ≡ rest = cc in record { settings = []; written = same; known = refl }),
  (λ h. let bad : None ≡ Some rest = h in cc),
)
front_sound names (word ∷ words) rest = (
  (λ h. first (front_sound names words rest) (is_dashed word) refl (kind_of names word) refl h),
  (λ h. second (front_sound names words rest) (is_dashed word) refl h),
)
  where
    first : ((words_after names false words ≡ Some rest → Front names words rest) × (words_after names true words ≡ Some rest → Valued names words rest)) → (d : Bool) → is_dashed word ≡ d → (k : Next) → kind_of names word ≡ k
        → by_next (cond d k Stop) (words_after names false words) (words_after names true words) (Some (word ∷ words)) ≡ Some rest → Front names (word ∷ words) rest
    first next true e Item f h =
        let item = one_item names word f in
        let others = next.0 h in
        record {
          settings = item.setting ∷ others.settings;
          written = (λ i. word ∷ others.written i) ∙ sym (ap (λ l. (l ++ words_of others.settings) ++ rest) item.written);
          known = and_from _ _ item.known others.known;
        }
    first next true e Value f h =
        let half = half_item names word f in
        let others = next.1 h in
        record {
          settings = Apart half.name others.value ∷ others.settings;
          written = (λ i. half.written i ∷ others.written i);
          known = and_from _ _ (and_from _ _ half.known (not_from_false _ others.plain)) others.known;
        }
    first next true e Stop f h = absurd (no_stop names word f)
    first next true e Bad f h = let bad : None ≡ Some rest = h in cc
    first next false e k f h = let same : word ∷ words ≡ rest = cc in record { settings = []; written = same; known = refl }

    second : ((words_after names false words ≡ Some rest → Front names words rest) × (words_after names true words ≡ Some rest → Valued names words rest)) → (d : Bool) → is_dashed word ≡ d → by_next (cond d Bad Item) (words_after names false words) (words_after names true words) (Some (word ∷ words)) ≡ Some rest → Valued names (word ∷ words) rest
    second next true e h = let bad : None ≡ Some rest = h in cc
    second next false e h =
        let others = next.0 h in
        record { value = word; settings = others.settings; written = (λ i. word ∷ others.written i); plain = e; known = others.known }

-- ---- the words in capitals

plain_len-front : (texts : List (List ℕ)) → list_all (λ text. not (is_dashed text)) texts ≡ true → (settings : List Setting) → plain_len (texts ++ words_of settings) ≡ length texts
plain_len-front [] plain [] = refl
plain_len-front [] plain (Flag name ∷ gs) = refl
plain_len-front [] plain (Joined name value ∷ gs) = refl
plain_len-front [] plain (Apart name value ∷ gs) = refl
plain_len-front (text ∷ texts) plain settings =
    let parts = and_parts (not (is_dashed text)) (list_all (λ t. not (is_dashed t)) texts) plain in
    let rest = plain_len-front texts parts.1 settings in
    rw (parts.0, rest) (grind arith)

taken_plain : (words : List (List ℕ)) → list_all (λ text. not (is_dashed text)) (take (plain_len words) words) ≡ true
taken_plain [] = refl
taken_plain (word ∷ words) = go (is_dashed word) refl (taken_plain words)
  where
    go : (d : Bool) → is_dashed word ≡ d → list_all (λ text. not (is_dashed text)) (take (plain_len words) words) ≡ true
        → list_all (λ text. not (is_dashed text)) (take (cond (not d) (1 + plain_len words) 0) (word ∷ words)) ≡ true
    go true e h = refl
    go false e h =
        let one : take (1 + plain_len words) (word ∷ words) ≡ word ∷ take (plain_len words) words = grind (arith, common_steps) in
        rw (one, e) h

taken_len : (words : List (List ℕ)) → length (take (plain_len words) words) ≡ plain_len words
taken_len [] = refl
taken_len (word ∷ words) = go (is_dashed word) (taken_len words)
  where
    go : (d : Bool) → length (take (plain_len words) words) ≡ plain_len words → length (take (cond (not d) (1 + plain_len words) 0) (word ∷ words)) ≡ cond (not d) (1 + plain_len words) 0
    go true h = refl
    go false h =
        let one : take (1 + plain_len words) (word ∷ words) ≡ word ∷ take (plain_len words) words = grind (arith, common_steps) in
        rw one (grind arith)

-- ---- the whole look

after_nothing : (names : List Named) → words_after names false [] ≡ Some []
unfolding words_after
after_nothing names = refl

after_stops : (names : List Named) (text : List ℕ) (rest : List (List ℕ)) → is_dashed text ≡ false → words_after names false (text ∷ rest) ≡ Some (text ∷ rest)
unfolding words_after
after_stops names text rest plain = rw plain refl

after_back : (names : List Named) → AreNames names → (back : List Setting) → list_all (is_known names) back ≡ true → words_after names false (words_of back) ≡ Some []
after_back names names_are back known = ap (words_after names false) (sym (append-nil (words_of back))) ∙ after_settings names names_are back known [] ∙ after_nothing names

-- the look passes a list of items
pub look_passes : (names : List Named) → AreNames names → (least most : ℕ) (front back : List Setting) (texts : List (List ℕ)) → list_all (is_known names) front ≡ true → list_all (is_known names) back ≡ true
    → list_all (λ text. not (is_dashed text)) texts ≡ true → leb least (length texts) ≡ true → leb (length texts) most ≡ true
    → are_items names least most (words_of front ++ (texts ++ words_of back)) ≡ true
look_passes names names_are least most front back texts known_before known_since plain enough few =
    ap (ends_well names least most) (after_settings names names_are front known_before (texts ++ words_of back)) ∙ go texts plain enough few
  where
    go : (ts : List (List ℕ)) → list_all (λ text. not (is_dashed text)) ts ≡ true → leb least (length ts) ≡ true → leb (length ts) most ≡ true
        → ends_well names least most (words_after names false (ts ++ words_of back)) ≡ true
    go [] p e f =
        ap (ends_well names least most) (after_back names names_are back known_since) ∙ (λ i. is_end (after_nothing names i) && leb least 0 && leb 0 most) ∙ rw (e, f) refl
    go (t ∷ ts) p e f =
        let parts = and_parts (not (is_dashed t)) (list_all (λ text. not (is_dashed text)) ts) p in
        let all : List (List ℕ) = t ∷ (ts ++ words_of back) in
        let len : plain_len all ≡ length (t ∷ ts) = plain_len-front (t ∷ ts) p back in
        let left : drop (plain_len all) all ≡ words_of back = ap (λ n. drop n all) len ∙ drop_at (t ∷ ts) (words_of back) (length (t ∷ ts)) refl in
        let ends : is_end (words_after names false (drop (plain_len all) all)) ≡ true = ap (λ l. is_end (words_after names false l)) left ∙ ap is_end (after_back names names_are back known_since) in
        let low : leb least (plain_len all) ≡ true = ap (leb least) len ∙ e in
        let high : leb (plain_len all) most ≡ true = ap (λ n. leb n most) len ∙ f in
        ap (ends_well names least most) (after_stops names t (ts ++ words_of back) (not-true (is_dashed t) parts.0)) ∙ rw (ends, low, high) refl

-- a list of items, but for names that are given twice
pub record Items (names : List Named) (least most : ℕ) (words : List (List ℕ)) : Type 0 where
  pub front : List Setting
  pub texts : List (List ℕ)
  pub back : List Setting
  pub written : words ≡ words_of front ++ (texts ++ words_of back)
  pub known_before : list_all (is_known names) front ≡ true
  pub known_since : list_all (is_known names) back ≡ true
  pub plain : list_all (λ text. not (is_dashed text)) texts ≡ true
  pub enough : leb least (length texts) ≡ true
  pub few : leb (length texts) most ≡ true

-- and nothing else
pub look_sound : (names : List Named) (least most : ℕ) (words : List (List ℕ)) → are_items names least most words ≡ true → Items names least most words
look_sound names least most words passed = go (words_after names false words) refl passed
  where
    nothing_left : (o : Option (List (List ℕ))) → is_end o ≡ true → o ≡ Some []
    nothing_left None h = absurd (false≢true h)
    nothing_left (Some []) h = refl
    nothing_left (Some (w ∷ ws)) h = absurd (false≢true (sym (not_empty w ws) ∙ h))
      where
        not_empty : (x : List ℕ) (xs : List (List ℕ)) → (length (x ∷ xs) == 0) ≡ false
        not_empty x xs = grind (arith, nat_tests)

    go : (o : Option (List (List ℕ))) → words_after names false words ≡ o → ends_well names least most o ≡ true → Items names least most words
    go None e h = absurd (false≢true h)
    go (Some rest) e h =
        let outer = and_parts _ _ h in
        let inner = and_parts _ _ outer.0 in
        let n = plain_len rest in
        let first = (front_sound names words rest).0 e in
        let last = (front_sound names (drop n rest) []).0 (nothing_left _ inner.0) in
        let len = taken_len rest in
        record {
          front = first.settings;
          texts = take n rest;
          back = last.settings;
          written = first.written ∙ ap (λ l. words_of first.settings ++ l) (sym (take-append-drop n rest) ∙ ap (λ l. take n rest ++ l) (last.written ∙ append-nil (words_of last.settings)));
          known_before = first.known;
          known_since = last.known;
          plain = taken_plain rest;
          enough = ap (leb least) len ∙ inner.1;
          few = ap (λ k. leb k most) len ∙ outer.1;
        }
