-- The rows that an effect ends: none, or all of a topic.
use Rattle.std.proofs.Common.{◌≡◌, Bool, true, false, ◌&&◌, ◌||◌, refl}

pub nothing_more : (b before : Bool) → before ≡ ((b && false) || before)
nothing_more true before = refl
nothing_more false before = refl

pub all_more : (b before : Bool) → (b || before) ≡ ((b && true) || before)
all_more true before = refl
all_more false before = refl
