-- The topic of a captured table isn't one of progress records, and that of the progress records is.
use Rattle.std.proofs.Common.{◌≡◌, ◌∙◌, ℕ, List, [], ◌∷◌, ◌++◌, Bool, true, false, not, ◌&&◌, length, take, drop, refl, sym, ap, subst, append_assoc, arith}
use Rattle.std.specs.Prelude.{codes, nat_lt, nat_le, ◌-◌}
use Rattle.std.specs.List.{list_all}
use Rattle.std.specs.Str.{bytes_eq}
use Rattle.std.proofs.lemmas.List.{length-append, take-append-drop}
use Rattle.std.proofs.Math.Seq.{drop-append_seam}
use Rattle.dbl_record.specs.Acts.{is_progress}
use Rattle.dbl_model_table.specs.declared.identity.Identity.{Identity}
use Rattle.dbl_model_table.specs.declared.table.TableInfo.{TableInfo}
use Rattle.dbl_model_table.specs.Tables.{is_name_byte, is_name}
use Rattle.dbl_model_table.specs.Infos.{topic_of}
use Rattle.dbl_model_event.specs.Snapshots.{progress_topic}
use Rattle.dbl_model_table.proofs.Lists.{and_left, and_right, same_text, text_itself}
use Rattle.dbl_model_table.proofs.InfoLemmas.{good_name}

no_dot : (xs ys : List ℕ) → list_all is_name_byte (xs ++ 46 ∷ ys) ≡ true → ⊥
no_dot [] ys h = let contra : true ≡ false = sym (and_left (is_name_byte 46) (list_all is_name_byte ys) h) in cc
no_dot (x ∷ xs) ys h = no_dot xs ys (and_right (is_name_byte x) _ h)

-- of two texts that end in a part without a dot, each after one
last_parts : (xs ys a b : List ℕ) → list_all is_name_byte a ≡ true → list_all is_name_byte b ≡ true → xs ++ 46 ∷ a ≡ ys ++ 46 ∷ b → a ≡ b
last_parts [] [] a b ha hb e = cc
last_parts [] (y ∷ ys) a b ha hb e = let rest : a ≡ ys ++ 46 ∷ b = cc in absurd (no_dot ys b (subst (λ (t : List ℕ). list_all is_name_byte t ≡ true) rest ha))
last_parts (x ∷ xs) [] a b ha hb e = let rest : b ≡ xs ++ 46 ∷ a = cc in absurd (no_dot xs a (subst (λ (t : List ℕ). list_all is_name_byte t ≡ true) rest hb))
last_parts (x ∷ xs) (y ∷ ys) a b ha hb e = let rest : xs ++ 46 ∷ a ≡ ys ++ 46 ∷ b = cc in last_parts xs ys a b ha hb rest

name_bytes : (info : TableInfo) → list_all is_name_byte info.name.name ≡ true
name_bytes info = and_right (nat_lt 0 (length info.name.name) && nat_le (length info.name.name) 63) _ (and_right (is_name info.name.schema) _ (and_left _ _ (and_left _ _ (good_name info))))

other_name : (info : TableInfo) → bytes_eq info.name.name (codes "dblog-progress") ≡ false
other_name info = flip (bytes_eq info.name.name (codes "dblog-progress")) (and_right (is_name info.name.schema && is_name info.name.name) _ (and_left _ _ (good_name info)))
  where
    flip : (b : Bool) → not b ≡ true → b ≡ false
    flip true h = sym h
    flip false h = refl

pub not_progress : (identity : Identity) (info : TableInfo) → is_progress (topic_of identity info) ≡ false
not_progress identity info = step (is_progress topic) refl
  where
    topic : List ℕ
    topic = topic_of identity info

    named : topic ≡ (identity.prefix ++ codes "." ++ info.name.schema) ++ 46 ∷ info.name.name
    named = simp append_assoc

    step : (b : Bool) → is_progress topic ≡ b → b ≡ false
    step true e =
        let tail : drop (length topic - 15) topic ≡ codes ".dblog-progress" = sym (same_text (codes ".dblog-progress") (drop (length topic - 15) topic) e) in
        let whole : take (length topic - 15) topic ++ codes ".dblog-progress" ≡ topic = ap (λ (t : List ℕ). take (length topic - 15) topic ++ t) (sym tail) ∙ take-append-drop (length topic - 15) topic in
        let name : codes "dblog-progress" ≡ info.name.name = last_parts (take (length topic - 15) topic) (identity.prefix ++ codes "." ++ info.name.schema) (codes "dblog-progress") info.name.name refl (name_bytes info) (whole ∙ named) in
        absurd (let same : bytes_eq info.name.name (codes "dblog-progress") ≡ true = ap (bytes_eq info.name.name) name ∙ text_itself info.name.name in let contra : true ≡ false = sym same ∙ other_name info in cc)
    step false e = refl

-- what stands before the last part of a text ends where that part begins
last_part : (xs ys : List ℕ) → drop (length (xs ++ ys) - length ys) (xs ++ ys) ≡ ys
last_part xs ys =
    let before : length (xs ++ ys) - length ys ≡ length xs = omega (arith, length-append xs ys) in
    ap (λ n. drop n (xs ++ ys)) before ∙ drop-append_seam xs ys

pub is_progress_topic : (identity : Identity) → is_progress (progress_topic identity) ≡ true
is_progress_topic identity = ap (bytes_eq (codes ".dblog-progress")) (last_part identity.prefix (codes ".dblog-progress")) ∙ text_itself (codes ".dblog-progress")
