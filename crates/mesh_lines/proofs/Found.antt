-- Where something stands in lists that are joined.
use Rattle.std.proofs.Common.{◌≡◌, inl, inr, List, [], ◌∷◌, ◌++◌, refl, sym, ap, ap₂, ◌∙◌, append_assoc}
use Rattle.std.specs.Prelude.{flat_map}
use Rattle.mesh_model.specs.Net.Next.{Has}

-- it stands in the first of two lists, or in the second
pub data Split {X : Type 0} (xs ys before : List X) (z : X) (after : List X) : Type 0 where
  in_first : (back : List X) → xs ≡ before ++ z ∷ back → after ≡ back ++ ys → Split xs ys before z after
  in_second : (more : List X) → before ≡ xs ++ more → ys ≡ more ++ z ∷ after → Split xs ys before z after

pub heads : {X : Type 0} (a b : X) (xs ys : List X) → a ∷ xs ≡ b ∷ ys → (a ≡ b) × (xs ≡ ys)
heads a b xs ys e = (cc, cc)

split_more : {X : Type 0} (x b : X) (xs ys before : List X) (z : X) (after : List X) → x ≡ b → Split xs ys before z after → Split (x ∷ xs) ys (b ∷ before) z after
split_more x b xs ys before z after same (in_first back p q) = in_first back (ap₂ (λ h t. h ∷ t) same p) q
split_more x b xs ys before z after same (in_second more p q) = in_second more (ap₂ (λ h t. h ∷ t) (sym same) p) q

pub split : {X : Type 0} (xs ys before : List X) (z : X) (after : List X) → xs ++ ys ≡ before ++ z ∷ after → Split xs ys before z after
split [] ys before z after e = in_second before refl e
split (x ∷ xs) ys [] z after e = let h = heads x z (xs ++ ys) after e in in_first xs (ap (λ b. b ∷ xs) h.0) (sym h.1)
split (x ∷ xs) ys (b ∷ before) z after e = let h = heads x b (xs ++ ys) (before ++ z ∷ after) e in split_more x b xs ys before z after h.0 (split xs ys before z after h.1)

-- something stands in the list of one of many
pub record Found {X Y : Type 0} (f : X → List Y) (xs : List X) (before : List Y) (z : Y) (after : List Y) : Type 0 where
  pub front : List X
  pub one : X
  pub back : List X
  pub left : List Y
  pub right : List Y
  pub list_is : xs ≡ front ++ one ∷ back
  pub one_is : f one ≡ left ++ z ∷ right
  pub before_is : before ≡ flat_map f front ++ left
  pub after_is : after ≡ right ++ flat_map f back

found_later : {X Y : Type 0} (f : X → List Y) (x : X) (xs : List X) (before more : List Y) (z : Y) (after : List Y) → before ≡ f x ++ more → Found f xs more z after → Found f (x ∷ xs) before z after
found_later f x xs before more z after is w = record {
  front = x ∷ w.front;
  one = w.one;
  back = w.back;
  left = w.left;
  right = w.right;
  list_is = ap (λ l. x ∷ l) w.list_is;
  one_is = w.one_is;
  before_is = is ∙ ap (λ l. f x ++ l) w.before_is ∙ sym (append_assoc (f x) (flat_map f w.front) w.left);
  after_is = w.after_is;
}

no_place : {Y : Type 0} (before : List Y) (z : Y) (after : List Y) → [] ≡ before ++ z ∷ after → ⊥
no_place [] z after e = cc
no_place (b ∷ before) z after e = cc

pub found : {X Y : Type 0} (f : X → List Y) (xs : List X) (before : List Y) (z : Y) (after : List Y) → flat_map f xs ≡ before ++ z ∷ after → Found f xs before z after
found f [] before z after e = absurd (no_place before z after e)
found f (x ∷ xs) before z after e = found_in f x xs before z after (found f xs) (split (f x) (flat_map f xs) before z after e)
  where
    found_in : {X Y : Type 0} (f : X → List Y) (x : X) (xs : List X) (before : List Y) (z : Y) (after : List Y) → ((more : List Y) (z : Y) (after : List Y) → flat_map f xs ≡ more ++ z ∷ after → Found f xs more z after) → Split (f x) (flat_map f xs) before z after → Found f (x ∷ xs) before z after
    found_in f x xs before z after again (in_first back p q) = record {
      front = [];
      one = x;
      back = xs;
      left = before;
      right = back;
      list_is = refl;
      one_is = p;
      before_is = refl;
      after_is = q;
    }
    found_in f x xs before z after again (in_second more p q) = found_later f x xs before more z after p (again more z after q)

-- what stands at a place is there
pub has_at : {X : Type 0} (front : List X) (x : X) (back : List X) → Has (front ++ x ∷ back) x
has_at [] x back = inl refl
has_at (y ∷ front) x back = inr (has_at front x back)
