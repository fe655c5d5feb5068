-- What is read step by step, and the first separator and the words of some bytes.
use Rattle.std.proofs.Common.{◌≡◌, ◌≢◌, ◌∙◌, ℕ, ◌<◌, ◌==◌, Bool, true, false, cond, List, [], ◌∷◌, ◌++◌, Option, Some, None, length, refl, sym, ap, subst, arith}
use Rattle.std.specs.Prelude.{if◌then◌else◌, option_map}
use Rattle.std.specs.List.{AllByRecursion, AllZip, join_with_byte, onto_first}
use Rattle.std.proofs.lemmas.Bool.{eqb-true, eq-eqb, ne_eqb}
use Rattle.dbl_script.specs.Reads.{◌>>=◌, all_of, some_of}
use Rattle.dbl_script.specs.Words.{cut_at, parts_at}
use Rattle.dbl_script_laws.specs.Language.{Lacks, SayEach}

-- ---- one reader after the other

pub record Bound {A B : Type 0} (o : Option A) (f : A → Option B) (b : B) : Type 0 where
  pub item : A
  pub first : o ≡ Some item
  pub rest : f item ≡ Some b

pub bound : {A B : Type 0} (o : Option A) (f : A → Option B) (b : B) → (o >>= f) ≡ Some b → Bound o f b
bound None f b is = cc
bound (Some a) f b is = record { item = a; first = refl; rest = is }

pub back : {A B : Type 0} (o : Option A) (f : A → Option B) (a : A) (b : B) → o ≡ Some a → f a ≡ Some b → (o >>= f) ≡ Some b
back o f a b first rest = ap (λ x. x >>= f) first ∙ rest

-- a test that was passed
pub passed : {A : Type 0} (b : Bool) (o : Option A) (a : A) → (if b then o else None) ≡ Some a → (b ≡ true) × (o ≡ Some a)
passed true o a is = (refl, is)
passed false o a is = cc

pub none_of : {A : Type 0} (a : A) → None ≡ Some a → ⊥
none_of a is = cc

-- ---- lists of words

module _ {A : Type 0} (read : List ℕ → Option A) (Says : List ℕ → A → Type 0) where
  pub all_said : ((word : List ℕ) (a : A) → read word ≡ Some a → Says word a) → (words : List (List ℕ)) (values : List A) → all_of read words ≡ Some values → AllZip Says words values
  unfolding all_of
  all_said to [] [] is = tt
  all_said to [] (v ∷ vs) is = cc
  all_said to (word ∷ words) values is =
      let a = bound (read word) (λ first. all_of read words >>= λ others. Some (first ∷ others)) values is in
      let b = bound (all_of read words) (λ others. Some (a.item ∷ others)) values a.rest in
      let e : a.item ∷ b.item ≡ values = (let same = b.rest in cc) in
      subst (AllZip Says (word ∷ words)) e (to word a.item a.first, all_said to words b.item b.first)

  words_some : (words : List (List ℕ)) (values : List A) → AllZip Says words values → (length values == 0) ≡ false → 0 < length words
  words_some [] [] zip some = (let wrong : true ≡ false = some in cc)
  words_some [] (v ∷ vs) zip some = absurd zip
  words_some (word ∷ words) values zip some = omega arith

  pub some_said : ((word : List ℕ) (a : A) → read word ≡ Some a → Says word a) → (words : List (List ℕ)) (values : List A) → some_of read words ≡ Some values → SayEach Says words values
  unfolding some_of
  some_said to words values is =
      let a = bound (all_of read words) (λ all. if length all == 0 then None else Some all) values is in
      by a.item a.first (length a.item == 0) refl a.rest
    where
      by : (all : List A) → all_of read words ≡ Some all → (b : Bool) → (length all == 0) ≡ b → (if b then None else Some all) ≡ Some values → SayEach Says words values
      by all first true none told = cc
      by all first false some told =
          let same : all ≡ values = cc in
          let zip = all_said to words all first in
          (words_some words all zip some, subst (AllZip Says words) same zip)

  pub all_back : ((word : List ℕ) (a : A) → Says word a → read word ≡ Some a) → (words : List (List ℕ)) (values : List A) → AllZip Says words values → all_of read words ≡ Some values
  unfolding all_of
  all_back from [] [] zip = refl
  all_back from [] (v ∷ vs) zip = absurd zip
  all_back from (word ∷ words) [] zip = absurd zip
  all_back from (word ∷ words) (v ∷ vs) zip =
      back (read word) (λ first. all_of read words >>= λ others. Some (first ∷ others)) v (v ∷ vs) (from word v zip.0)
      (back (all_of read words) (λ others. Some (v ∷ others)) vs (v ∷ vs) (all_back from words vs zip.1) refl)

  values_some : (words : List (List ℕ)) (values : List A) → AllZip Says words values → 0 < length words → (length values == 0) ≡ false
  values_some [] values zip some = absurd (omega (arith, some))
  values_some (word ∷ words) [] zip some = absurd zip
  values_some (word ∷ words) (v ∷ vs) zip some = ne_eqb (length (v ∷ vs)) 0 (λ e. omega (arith, e))

  pub some_back : ((word : List ℕ) (a : A) → Says word a → read word ≡ Some a) → (words : List (List ℕ)) (values : List A) → SayEach Says words values → some_of read words ≡ Some values
  unfolding some_of
  some_back from words values said =
      back (all_of read words) (λ all. if length all == 0 then None else Some all) values values (all_back from words values said.1)
      (ap (λ (b : Bool). if b then None else Some values) (values_some words values said.1 said.0))

-- ---- the first separator

pub cut_front : (c : ℕ) (front rest : List ℕ) → Lacks c front → cut_at c (front ++ c ∷ rest) ≡ Some (front, rest)
cut_front c [] rest lacks = ap (λ (b : Bool). if b then Some ([], rest) else option_map (λ (p : List ℕ × List ℕ). (c ∷ p.0, p.1)) (cut_at c rest)) (eq-eqb c c refl)
cut_front c (x ∷ front) rest lacks =
    ap (λ (b : Bool). if b then Some ([], front ++ c ∷ rest) else option_map (λ (p : List ℕ × List ℕ). (x ∷ p.0, p.1)) (cut_at c (front ++ c ∷ rest))) (ne_eqb x c lacks.0)
    ∙ ap (option_map (λ (p : List ℕ × List ℕ). (x ∷ p.0, p.1))) (cut_front c front rest lacks.1)

pub cut_none : (c : ℕ) (xs : List ℕ) → Lacks c xs → cut_at c xs ≡ None
cut_none c [] lacks = refl
cut_none c (x ∷ xs) lacks =
    ap (λ (b : Bool). if b then Some ([], xs) else option_map (λ (p : List ℕ × List ℕ). (x ∷ p.0, p.1)) (cut_at c xs)) (ne_eqb x c lacks.0)
    ∙ ap (option_map (λ (p : List ℕ × List ℕ). (x ∷ p.0, p.1))) (cut_none c xs lacks.1)

other_byte : (x c : ℕ) → (x == c) ≡ false → x ≢ c
other_byte x c other same = (let wrong : true ≡ false = sym (eq-eqb x c same) ∙ other in cc)

pub record IsCut (c : ℕ) (xs : List ℕ) (p : List ℕ × List ℕ) : Type 0 where
  pub is : xs ≡ p.0 ++ c ∷ p.1
  pub lacks : Lacks c p.0

pub cut_is : (c : ℕ) (xs : List ℕ) (p : List ℕ × List ℕ) → cut_at c xs ≡ Some p → IsCut c xs p
cut_is c [] p is = cc
cut_is c (x ∷ xs) p is = by (x == c) refl (λ q there. cut_is c xs q there) is
  where
    further : ((q : List ℕ × List ℕ) → cut_at c xs ≡ Some q → IsCut c xs q) → (o : Option (List ℕ × List ℕ)) → cut_at c xs ≡ o → (x == c) ≡ false → option_map (λ (q : List ℕ × List ℕ). (x ∷ q.0, q.1)) o ≡ Some p → IsCut c (x ∷ xs) p
    further later None there other told = cc
    further later (Some q) there other told =
        let rest = later q there in
        let same : (x ∷ q.0, q.1) ≡ p = cc in
        subst (IsCut c (x ∷ xs)) same (record { is = ap (λ (ys : List ℕ). x ∷ ys) rest.is; lacks = (other_byte x c other, rest.lacks) })

    by : (b : Bool) → (x == c) ≡ b → ((q : List ℕ × List ℕ) → cut_at c xs ≡ Some q → IsCut c xs q) → (if b then Some ([], xs) else option_map (λ (q : List ℕ × List ℕ). (x ∷ q.0, q.1)) (cut_at c xs)) ≡ Some p → IsCut c (x ∷ xs) p
    by true here later told =
        let e : x ≡ c = eqb-true x c here in
        let same : ([], xs) ≡ p = cc in
        subst (IsCut c (x ∷ xs)) same (record { is = ap (λ (y : ℕ). y ∷ xs) e; lacks = tt })
    by false other later told = further later (cut_at c xs) refl other told

abbrev cut_on : ℕ → List ℕ → Bool → Option (List ℕ × List ℕ) → Option (List ℕ × List ℕ)
cut_on x xs b o = if b then Some ([], xs) else option_map (λ (q : List ℕ × List ℕ). (x ∷ q.0, q.1)) o

pub cut_lacks : (c : ℕ) (xs : List ℕ) → cut_at c xs ≡ None → Lacks c xs
cut_lacks c [] is = tt
cut_lacks c (x ∷ xs) is = by (x == c) refl (λ absent. cut_lacks c xs absent) is
  where
    further : (cut_at c xs ≡ None → Lacks c xs) → (o : Option (List ℕ × List ℕ)) → cut_at c xs ≡ o → (x == c) ≡ false → cut_on x xs false o ≡ None → Lacks c (x ∷ xs)
    further later None there other told = (other_byte x c other, later there)
    further later (Some q) there other told = cc

    by : (b : Bool) → (x == c) ≡ b → (cut_at c xs ≡ None → Lacks c xs) → cut_on x xs b (cut_at c xs) ≡ None → Lacks c (x ∷ xs)
    by true here later told = cc
    by false other later told = further later (cut_at c xs) refl other told

-- ---- words

pub parts_front : (c : ℕ) (word rest : List ℕ) → Lacks c word → parts_at c (word ++ c ∷ rest) ≡ word ∷ parts_at c rest
parts_front c [] rest lacks = ap (λ (b : Bool). cond b ([] ∷ parts_at c rest) (onto_first c (parts_at c rest))) (eq-eqb c c refl)
parts_front c (x ∷ word) rest lacks =
    ap (λ (b : Bool). cond b ([] ∷ parts_at c (word ++ c ∷ rest)) (onto_first x (parts_at c (word ++ c ∷ rest)))) (ne_eqb x c lacks.0)
    ∙ ap (onto_first x) (parts_front c word rest lacks.1)

pub parts_last : (c : ℕ) (word : List ℕ) → Lacks c word → parts_at c word ≡ word ∷ []
parts_last c [] lacks = refl
parts_last c (x ∷ word) lacks =
    ap (λ (b : Bool). cond b ([] ∷ parts_at c word) (onto_first x (parts_at c word))) (ne_eqb x c lacks.0) ∙ ap (onto_first x) (parts_last c word lacks.1)

pub words_back : (c : ℕ) (first : List ℕ) (words : List (List ℕ)) → AllByRecursion (Lacks c) (first ∷ words) → parts_at c (join_with_byte c (first ∷ words)) ≡ first ∷ words
words_back c first [] lacks = parts_last c first lacks.0
words_back c first (second ∷ words) lacks =
    parts_front c first (join_with_byte c (second ∷ words)) lacks.0 ∙ ap (λ (parts : List (List ℕ)). first ∷ parts) (words_back c second words lacks.1)

pub record HasParts (c : ℕ) (xs : List ℕ) : Type 0 where
  pub first : List ℕ
  pub others : List (List ℕ)
  pub are : parts_at c xs ≡ first ∷ others
  pub joined : join_with_byte c (first ∷ others) ≡ xs
  pub lack : AllByRecursion (Lacks c) (first ∷ others)

pub join_onto : (c x : ℕ) (first : List ℕ) (others : List (List ℕ)) → join_with_byte c ((x ∷ first) ∷ others) ≡ x ∷ join_with_byte c (first ∷ others)
join_onto c x first [] = refl
join_onto c x first (second ∷ others) = refl

pub parts_are : (c : ℕ) (xs : List ℕ) → HasParts c xs
parts_are c [] = record { first = []; others = []; are = refl; joined = refl; lack = (tt, tt) }
parts_are c (x ∷ xs) = by (x == c) refl (parts_are c xs)
  where
    by : (b : Bool) → (x == c) ≡ b → HasParts c xs → HasParts c (x ∷ xs)
    by true here h = record {
      first = [];
      others = h.first ∷ h.others;
      are = ap (λ (t : Bool). cond t ([] ∷ parts_at c xs) (onto_first x (parts_at c xs))) here ∙ ap (λ (ps : List (List ℕ)). [] ∷ ps) h.are;
      joined = ap (λ (ys : List ℕ). c ∷ ys) h.joined ∙ ap (λ (y : ℕ). y ∷ xs) (sym (eqb-true x c here));
      lack = (tt, h.lack);
    }
    by false other h = record {
      first = x ∷ h.first;
      others = h.others;
      are = ap (λ (t : Bool). cond t ([] ∷ parts_at c xs) (onto_first x (parts_at c xs))) other ∙ ap (onto_first x) h.are;
      joined = join_onto c x h.first h.others ∙ ap (λ (ys : List ℕ). x ∷ ys) h.joined;
      lack = ((other_byte x c other, h.lack.0), h.lack.1);
    }
