-- What a write may leave, and what one write more may.
use Rattle.std.proofs.Common.{◌≡◌, ◌∙◌, ◌⊎◌, inl, inr, ℕ, ◌+◌, ◌-◌, ◌<◌, ◌≤◌, min, max, List, [], ◌∷◌, ◌++◌, length, take, drop, get_or, map, replicate, refl, sym, ap, subst, arith, length-append, length-take, length-drop}
use Rattle.std.proofs.lemmas.List.{get_or_append_left, get_or-append_right, get_or-take, get_or-drop, length-replicate, get_or_at, ext_get_or}
use Rattle.std.proofs.lemmas.List.Elements.{All-push, All-cons, All-nil}
use Rattle.std.proofs.lemmas.List.FromFn.{length-map-range_with_len, get_or-map-range_with_len}
use Rattle.std.proofs.lemmas.Bool.{cases_lt}
use Rattle.std.specs.List.{range_with_len}
use Rattle.dbl_disk.specs.declared.extent.Extent.{Extent}
use Rattle.dbl_disk.specs.Disks.{IsAside, IsOutside, MayLeave, Torn, farthest, written}

-- the place isn't in the one extent
pub aside : (extent : Extent) (place : ℕ) → IsOutside (extent ∷ []) place → IsAside extent place
aside extent place outside = outside 0 extent (omega arith)

pub outside_one : (extent : Extent) (place : ℕ) → IsAside extent place → IsOutside (extent ∷ []) place
outside_one extent place is = All-cons (λ (e : Extent). IsAside e place) extent [] is (All-nil (λ (e : Extent). IsAside e place))

pub torn_same : (at count : ℕ) (old : List ℕ) → Torn at count old old
torn_same at count old = record { kept = λ place within outside. refl; no_shorter = omega arith; no_longer = omega arith }

module _ (old : List ℕ) (at : ℕ) (bytes : List ℕ) where
  pad : List ℕ
  pad = old ++ replicate (at - length old) 0

  front : List ℕ
  front = take at pad ++ bytes

  back : List ℕ
  back = drop (at + length bytes) old

  front_long : length front ≡ at + length bytes
  unfolding front pad
  front_long = omega (arith, length-append (take at pad) bytes, length-take at pad, length-append old (replicate (at - length old) 0), length-replicate {A = ℕ} (at - length old) 0)

  head_long : length (take at pad) ≡ at
  unfolding pad
  head_long = omega (arith, length-take at pad, length-append old (replicate (at - length old) 0), length-replicate {A = ℕ} (at - length old) 0)

  pub length-written : length (written old at bytes) ≡ max (length old) (at + length bytes)
  unfolding front pad back
  length-written = omega (arith, front_long, length-append front back, length-drop (at + length bytes) old)

  before : (place : ℕ) → place < length old → place < at → get_or (written old at bytes) place 0 ≡ get_or old place 0
  unfolding front pad back
  before place within below =
      get_or_append_left front back 0 place (omega (arith, front_long))
      ∙ get_or_append_left (take at pad) bytes 0 place (omega (arith, head_long))
      ∙ get_or-take at pad place 0 below
      ∙ get_or_append_left old (replicate (at - length old) 0) 0 place within

  subsequent : (place : ℕ) → at + length bytes ≤ place → get_or (written old at bytes) place 0 ≡ get_or old place 0
  unfolding front pad back
  subsequent place above =
      get_or-append_right front back (at + length bytes) place 0 front_long above
      ∙ get_or-drop (at + length bytes) old (place - (at + length bytes)) 0
      ∙ ap (λ (n : ℕ). get_or old n 0) (omega arith)

  pub inside_written : (j : ℕ) → j < length bytes → get_or (written old at bytes) (at + j) 0 ≡ get_or bytes j 0
  unfolding front pad back
  inside_written j below =
      get_or_append_left front back 0 (at + j) (omega (arith, front_long))
      ∙ get_or-append_right (take at pad) bytes at (at + j) 0 head_long (omega arith)
      ∙ ap (λ (n : ℕ). get_or bytes n 0) (omega arith)

  pub torn_written : Torn at (length bytes) old (written old at bytes)
  torn_written = record {
    kept = λ place within outside. elim (aside (record { at = at; length = length bytes }) place outside) [
      | inl below ↦ before place within below
      | inr above ↦ subsequent place above
    ];
    no_shorter = omega (arith, length-written);
    no_longer = omega (arith, length-written);
  }

-- ends
pub farthest-push : (extents : List Extent) (end : ℕ) (extent : Extent) → farthest end (extents ++ extent ∷ []) ≡ max (farthest end extents) (extent.at + extent.length)
farthest-push [] end extent = refl
farthest-push (e ∷ extents) end extent = farthest-push extents (max end (e.at + e.length)) extent

pub farthest_reaches : (extents : List Extent) (end : ℕ) → end ≤ farthest end extents
farthest_reaches [] end = omega arith
farthest_reaches (e ∷ extents) end = omega (arith, farthest_reaches extents (max end (e.at + e.length)))

-- what a crash might have left before the last write: what stood in its extent is taken from the stable bytes
earlier_at : List ℕ → Extent → List ℕ → ℕ → ℕ
earlier_at stable extent crashed place = elim (cases_lt place extent.at) [
  | inl below ↦ get_or crashed place 0
  | inr above ↦ elim (cases_lt place (extent.at + extent.length)) [
    | inl within ↦ get_or stable place 0
    | inr subsequent ↦ get_or crashed place 0
  ]
]

pub outside_first : (extents : List Extent) (extent : Extent) (place : ℕ) → IsOutside (extents ++ extent ∷ []) place → IsOutside extents place
outside_first extents extent place outside = λ k d below. subst (λ (e : Extent). IsAside e place) (get_or_append_left extents (extent ∷ []) d k below) (outside k d (omega (arith, length-append extents (extent ∷ []))))

pub outside_last : (extents : List Extent) (extent : Extent) (place : ℕ) → IsOutside (extents ++ extent ∷ []) place → IsAside extent place
outside_last extents extent place outside = subst (λ (e : Extent). IsAside e place) (get_or_at extents extent [] extent (length extents) refl) (outside (length extents) extent (omega (arith, length-append extents (extent ∷ []))))

module _ (stable : List ℕ) (extents : List Extent) (extent : Extent) where
  -- one write less
  module _ (crashed : List ℕ) (leaves : MayLeave stable (extents ++ extent ∷ []) crashed) where
    count : ℕ
    count = min (length crashed) (farthest (length stable) extents)

    earlier : List ℕ
    earlier = map (earlier_at stable extent crashed) (range_with_len 0 count)

    earlier_long : length earlier ≡ count
    unfolding earlier
    earlier_long = length-map-range_with_len (earlier_at stable extent crashed) 0 count

    get_or-earlier : (place : ℕ) → place < count → get_or earlier place 0 ≡ earlier_at stable extent crashed place
    unfolding earlier
    get_or-earlier place within = get_or-map-range_with_len (earlier_at stable extent crashed) 0 count place place 0 within (omega arith)

    outside_both : (place : ℕ) → IsOutside extents place → IsAside extent place → IsOutside (extents ++ extent ∷ []) place
    outside_both place outside is = All-push (λ (e : Extent). IsAside e place) extents extent outside is

    was : (place : ℕ) → place < length stable → IsOutside extents place → earlier_at stable extent crashed place ≡ get_or stable place 0
    unfolding earlier_at
    was place within outside = elim (cases_lt place extent.at) as (λ (c : (place < extent.at) ⊎ (extent.at ≤ place)). elim c [
      | inl below ↦ get_or crashed place 0
      | inr above ↦ elim (cases_lt place (extent.at + extent.length)) [
        | inl within ↦ get_or stable place 0
        | inr subsequent ↦ get_or crashed place 0
      ]
    ] ≡ get_or stable place 0) [
      | inl below ↦ leaves.kept place within (outside_both place outside (inl below))
      | inr above ↦ elim (cases_lt place (extent.at + extent.length)) as (λ (c : (place < extent.at + extent.length) ⊎ (extent.at + extent.length ≤ place)). elim c [
        | inl within ↦ get_or stable place 0
        | inr subsequent ↦ get_or crashed place 0
      ] ≡ get_or stable place 0) [
        | inl in_it ↦ refl
        | inr subsequent ↦ leaves.kept place within (outside_both place outside (inr subsequent))
      ]
    ]

    is_now : (place : ℕ) → IsAside extent place → earlier_at stable extent crashed place ≡ get_or crashed place 0
    unfolding earlier_at
    is_now place is = elim (cases_lt place extent.at) as (λ (c : (place < extent.at) ⊎ (extent.at ≤ place)). elim c [
      | inl below ↦ get_or crashed place 0
      | inr above ↦ elim (cases_lt place (extent.at + extent.length)) [
        | inl within ↦ get_or stable place 0
        | inr subsequent ↦ get_or crashed place 0
      ]
    ] ≡ get_or crashed place 0) [
      | inl below ↦ refl
      | inr above ↦ elim (cases_lt place (extent.at + extent.length)) as (λ (c : (place < extent.at + extent.length) ⊎ (extent.at + extent.length ≤ place)). elim c [
        | inl within ↦ get_or stable place 0
        | inr subsequent ↦ get_or crashed place 0
      ] ≡ get_or crashed place 0) [
        | inl in_it ↦ absurd (elim is [ inl below ↦ (omega arith) | inr subsequent ↦ (omega arith) ])
        | inr subsequent ↦ refl
      ]
    ]

    pub one_less : (before : List ℕ) × MayLeave stable extents before × MayLeave before (extent ∷ []) crashed
    unfolding count
    one_less = (
      earlier,
      record {
        kept = λ place within outside. get_or-earlier place (omega (arith, farthest_reaches extents (length stable), leaves.no_shorter)) ∙ was place within outside;
        no_shorter = omega (arith, earlier_long, farthest_reaches extents (length stable), leaves.no_shorter);
        no_longer = omega (arith, earlier_long);
      },
      record {
        kept = λ place within outside. sym (get_or-earlier place (omega (arith, earlier_long)) ∙ is_now place (aside extent place outside));
        no_shorter = omega (arith, earlier_long);
        no_longer = omega (arith, earlier_long, leaves.no_longer, farthest-push extents (length stable) extent);
      },
    )

  -- one write more
  pub one_more : (before crashed : List ℕ) → MayLeave stable extents before → MayLeave before (extent ∷ []) crashed → MayLeave stable (extents ++ extent ∷ []) crashed
  one_more before crashed first last = record {
    kept = λ place within outside.
        last.kept place (omega (arith, first.no_shorter)) (outside_one extent place (outside_last extents extent place outside))
        ∙ first.kept place within (outside_first extents extent place outside);
    no_shorter = omega (arith, first.no_shorter, last.no_shorter);
    no_longer = omega (arith, first.no_longer, last.no_longer, farthest-push extents (length stable) extent);
  }

-- without a write
pub only_stable : (stable crashed : List ℕ) → MayLeave stable [] crashed → crashed ≡ stable
only_stable stable crashed leaves =
    ext_get_or 0 crashed stable (omega (arith, leaves.no_shorter, leaves.no_longer)) (λ place within. leaves.kept place (omega (arith, leaves.no_longer)) (All-nil (λ (e : Extent). IsAside e place)))

pub stable_only : (stable crashed : List ℕ) → crashed ≡ stable → MayLeave stable [] crashed
stable_only stable crashed is = subst (λ (l : List ℕ). MayLeave stable [] l) (sym is) (record { kept = λ place within outside. refl; no_shorter = omega arith; no_longer = omega arith })
