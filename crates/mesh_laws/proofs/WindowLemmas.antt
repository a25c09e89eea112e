-- Numbers that were seen, and windows of them.
use Rattle.std.proofs.Common.{◌≡◌, ℕ, suc, zero, ◌-◌, ◌<◌, ◌≤◌, max, nat_eq, nat_lt, nat_le, Bool, true, false, cond, ◌&&◌, ◌||◌, List, [], ◌∷◌, arith, refl, sym, ap, ◌∙◌, ⊎_elim}
use Rattle.std.proofs.lemmas.Bool.{cases_Bool, cases_eq, cases_lt, le-leb, leb-true, lt-ltb, true≢false, or_cases, eqb-true, eq-eqb}
use Rattle.std.proofs.lemmas.Bool.Decides.{nat_tests}
use Rattle.mesh_model.specs.Routes.Numbers.{has, greatest, among, seen_among, window_length, window}

or_left : (a b : Bool) → a ≡ true → (a || b) ≡ true
or_left a b e = ap (λ x. x || b) e

or_right : (a b : Bool) → b ≡ true → (a || b) ≡ true
or_right true b e = refl
or_right false b e = e

-- ---- numbers seen
pub has-le : (n : ℕ) (seen : List ℕ) → has n seen ≡ true → n ≤ greatest seen
has-le n [] h = absurd (true≢false (sym h))
has-le n (m ∷ seen) h =
    ⊎_elim (λ e. let same = eqb-true n m e in omega arith) (λ e. let le = has-le n seen e in omega arith)
    (or_cases (nat_eq n m) (has n seen) h)

-- ---- the numbers of a stretch that pass a test
step : (b c : Bool) (n x : ℕ) (rest : List ℕ) → has n (cond (b && c) (x ∷ rest) rest) ≡ ((b && (c && nat_eq n x)) || has n rest)
step true true n x rest = refl
step true false n x rest = refl
step false c n x rest = refl

joined : (n k top : ℕ) (p : ℕ → Bool) (b : Bool) → b ≡ (nat_le n top && (nat_lt (top - n) k && p n))
    → ((nat_le k top && (p (top - k) && nat_eq n (top - k))) || b) ≡ (nat_le n top && (nat_lt (top - n) (suc k) && p n))
joined n k top p b e =
    ⊎_elim (λ same. let q : p (top - k) ≡ p n = ap p (sym same) in grind (arith, nat_tests)) (λ other. grind (arith, nat_tests)) (cases_eq n (top - k))

pub has-among : (n top count : ℕ) (p : ℕ → Bool) → has n (among top count p) ≡ (nat_le n top && (nat_lt (top - n) count && p n))
unfolding among
has-among n top zero p = grind (arith, nat_tests)
has-among n top (suc k) p = step (nat_le k top) (p (top - k)) n (top - k) (among top k p) ∙ joined n k top p _ (has-among n top k p)

pub among-agree : (top count : ℕ) (p q : ℕ → Bool) → ((n : ℕ) → n ≤ top → top - n < count → p n ≡ q n) → among top count p ≡ among top count q
unfolding among
among-agree top zero p q same = refl
among-agree top (suc k) p q same =
    let rest = among-agree top k p q (λ n le lt. same n le (omega arith)) in
    ⊎_elim (λ e. let le = leb-true k top e in
    ap (λ b. cond (nat_le k top && b) ((top - k) ∷ among top k p) (among top k p)) (same (top - k) (omega arith) (omega arith))
    ∙ ap (λ l. cond (nat_le k top && q (top - k)) ((top - k) ∷ l) l) rest)
    (λ e. ap (λ b. cond (b && p (top - k)) ((top - k) ∷ among top k p) (among top k p)) e ∙ rest
    ∙ sym (ap (λ b. cond (b && q (top - k)) ((top - k) ∷ among top k q) (among top k q)) e))
    (cases_Bool (nat_le k top))

greatest-step : (b : Bool) (x top : ℕ) (rest : List ℕ) → x ≤ top → greatest rest ≤ top → greatest (cond b (x ∷ rest) rest) ≤ top
greatest-step true x top rest le h = omega arith
greatest-step false x top rest le h = h

pub greatest-among-le : (top count : ℕ) (p : ℕ → Bool) → greatest (among top count p) ≤ top
unfolding among
greatest-among-le top zero p = omega arith
greatest-among-le top (suc k) p = greatest-step (nat_le k top && p (top - k)) (top - k) top (among top k p) (omega arith) (greatest-among-le top k p)

-- a stretch whose top passes has it as its greatest
pub greatest-among : (top count : ℕ) (p : ℕ → Bool) → 0 < count → p top ≡ true → greatest (among top count p) ≡ top
greatest-among top count p pos at =
    let there : has top (among top count p) ≡ true = has-among top top count p ∙ grind (arith, nat_tests) in
    let le = has-le top (among top count p) there in
    let ge = greatest-among-le top count p in
    omega arith

and_false : (a : Bool) → (a && false) ≡ false
and_false true = refl
and_false false = refl

-- where nothing was seen, nothing was seen in a stretch
pub none_among : (top count : ℕ) → seen_among top count [] ≡ []
unfolding among
none_among top zero = refl
none_among top (suc k) = ap (λ b. cond b ((top - k) ∷ seen_among top k []) (seen_among top k [])) (and_false (nat_le k top)) ∙ none_among top k

-- ---- windows
has-max : (m g : ℕ) (seen : List ℕ) → has g seen ≡ true → (nat_eq (max m g) m || has (max m g) seen) ≡ true
has-max m g seen h =
    ⊎_elim (λ lt. let e : max m g ≡ g = omega arith in or_right (nat_eq (max m g) m) _ (ap (λ x. has x seen) e ∙ h))
    (λ le. let e : max m g ≡ m = omega arith in or_left _ (has (max m g) seen) (eq-eqb (max m g) m e)) (cases_lt m g)

-- the greatest of numbers is one of them
pub has-greatest : (m : ℕ) (seen : List ℕ) → has (greatest (m ∷ seen)) (m ∷ seen) ≡ true
has-greatest m [] = grind (arith, nat_tests)
has-greatest m (k ∷ seen) = has-max m (greatest (k ∷ seen)) (k ∷ seen) (has-greatest k seen)

pub greatest-window : (seen : List ℕ) → greatest (window seen) ≡ greatest seen
unfolding window
greatest-window [] = let le = greatest-among-le 0 64 (λ n. has n []) in omega arith
greatest-window (m ∷ seen) = greatest-among (greatest (m ∷ seen)) 64 (λ n. has n (m ∷ seen)) (omega arith) (has-greatest m seen)

implied : (a b c : Bool) → (c ≡ true → a ≡ true) → (a && (b && c)) ≡ (b && c)
implied true b c h = refl
implied false true true h = h refl
implied false true false h = refl
implied false false c h = refl

pub has-window : (n : ℕ) (seen : List ℕ) → has n (window seen) ≡ (nat_lt (greatest seen - n) window_length && has n seen)
unfolding window
has-window n seen =
    has-among n (greatest seen) 64 (λ m. has m seen)
    ∙ implied (nat_le n (greatest seen)) (nat_lt (greatest seen - n) 64) (has n seen) (λ h. le-leb n (greatest seen) (has-le n seen h))

-- near its greatest a window has the numbers that were seen
has-window-near : (n : ℕ) (seen : List ℕ) → greatest seen - n < 64 → has n (window seen) ≡ has n seen
has-window-near n seen lt = has-window n seen ∙ ap (λ b. b && has n seen) (lt-ltb (greatest seen - n) 64 lt)

-- of the last numbers up to a top that none passes, a window has those that were seen
pub among-window : (top : ℕ) (seen : List ℕ) → greatest seen ≤ top → seen_among top window_length (window seen) ≡ seen_among top window_length seen
among-window top seen le = among-agree top 64 (λ n. has n (window seen)) (λ n. has n seen) (λ n low lt. has-window-near n seen (omega arith))

-- a window with one number more is that of all the numbers seen and that one
pub window-cons : (n : ℕ) (seen : List ℕ) → window (n ∷ window seen) ≡ window (n ∷ seen)
unfolding window
window-cons n seen =
    ap (λ g. among (max n g) 64 (λ m. has m (n ∷ window seen))) (greatest-window seen)
    ∙ among-agree (max n (greatest seen)) 64 (λ m. has m (n ∷ window seen)) (λ m. has m (n ∷ seen))
    (λ m low lt. ap (λ b. nat_eq m n || b) (has-window-near m seen (omega arith)))

-- a window is its own window
pub window-window : (seen : List ℕ) → window (window seen) ≡ window seen
unfolding window
window-window seen =
    ap (λ g. among g 64 (λ m. has m (window seen))) (greatest-window seen)
    ∙ among-agree (greatest seen) 64 (λ m. has m (window seen)) (λ m. has m seen) (λ m low lt. has-window-near m seen lt)
