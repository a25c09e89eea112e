-- The LAN of a gateway, and lists of places.
use Rattle.std.proofs.Common.{◌≡◌, ℕ, suc, ◌+◌, ◌⊎◌, inl, inr, Bool, true, false, cond, ◌||◌, nat_eq, if◌then◌else◌, List, [], ◌∷◌, ◌++◌, length, map, slice_get, Some, None, refl, sym, ap, ap₂, ◌∙◌, arith}
use Rattle.std.specs.List.{list_any}
use Rattle.std.proofs.lemmas.Bool.{cases_eq, eq-eqb, ne_eqb, true≢false}
use Rattle.mesh_model.specs.Net.Mesh.{NetLan}
use Rattle.mesh_model.specs.Net.Next.{Has}
use Rattle.mesh_model.specs.Net.Sending.{lan_from}
use Rattle.mesh_laws.proofs.Schedule.Members.{one_some}

-- ---- members

-- a place that a list has is found in it
pub has_any : (p : ℕ) (xs : List ℕ) → Has xs p → list_any (nat_eq p) xs ≡ true
has_any p [] h = absurd h
has_any p (x ∷ xs) (inl e) = ap (λ b. b || list_any (nat_eq p) xs) (eq-eqb p x e)
has_any p (x ∷ xs) (inr h) = later (nat_eq p x) (has_any p xs h)
  where
    later : (b : Bool) → list_any (nat_eq p) xs ≡ true → (b || list_any (nat_eq p) xs) ≡ true
    later true e = refl
    later false e = e

-- one that is found in it, it has
pub any_has : (p : ℕ) (xs : List ℕ) → list_any (nat_eq p) xs ≡ true → Has xs p
any_has p [] e = absurd (true≢false (sym e))
any_has p (x ∷ xs) e = either (cases_eq p x) (any_has p xs) e
  where
    either : (p ≡ x) ⊎ (p ≡ x → ⊥) → (list_any (nat_eq p) xs ≡ true → Has xs p) → (nat_eq p x || list_any (nat_eq p) xs) ≡ true → Has (x ∷ xs) p
    either (inl same) more f = inl same
    either (inr d) more f = inr (more (ap (λ b. b || list_any (nat_eq p) xs) (sym (ne_eqb p x d)) ∙ f))

-- one that it hasn't isn't found
pub not_any : (p : ℕ) (xs : List ℕ) → (Has xs p → ⊥) → list_any (nat_eq p) xs ≡ false
not_any p xs d = by (list_any (nat_eq p) xs) refl
  where
    by : (b : Bool) → list_any (nat_eq p) xs ≡ b → b ≡ false
    by true e = absurd (d (any_has p xs e))
    by false e = refl

-- two functions that agree on a list make one list of it
pub map_same : {Y : Type 0} (f g : ℕ → Y) (xs : List ℕ) → ((x : ℕ) → Has xs x → f x ≡ g x) → map f xs ≡ map g xs
map_same f g [] same = refl
map_same f g (x ∷ xs) same = ap₂ (λ y ys. y ∷ ys) (same x (inl refl)) (map_same f g xs (λ z h. same z (inr h)))

-- ---- LANs

-- a LAN that was found for a place
pub record FoundLan (p start : ℕ) (lans : List NetLan) (place : ℕ) : Type 0 where
  pub offset : ℕ
  pub is : place ≡ start + offset
  pub lan : NetLan
  pub found : slice_get lans offset ≡ Some lan
  pub has : Has lan.gateways p

found_next : (p start : ℕ) (first : NetLan) (rest : List NetLan) (place : ℕ) → FoundLan p (suc start) rest place → FoundLan p start (first ∷ rest) place
found_next p start first rest place f = record { offset = suc f.offset; is = f.is ∙ plus start f.offset; lan = f.lan; found = f.found; has = f.has }
  where
    plus : (a b : ℕ) → suc a + b ≡ a + suc b
    plus a b = omega arith

found_here : (p start : ℕ) (first : NetLan) (rest : List NetLan) (place : ℕ) (b : Bool) → list_any (nat_eq p) first.gateways ≡ b → (lan_from p (suc start) rest ≡ Some place → FoundLan p (suc start) rest place)
    → (if b then Some start else lan_from p (suc start) rest) ≡ Some place → FoundLan p start (first ∷ rest) place
found_here p start first rest place true here more e = record { offset = 0; is = sym (one_some start place e) ∙ zero_more start; lan = first; found = refl; has = any_has p first.gateways here }
  where
    zero_more : (a : ℕ) → a ≡ a + 0
    zero_more a = omega arith
found_here p start first rest place false here more e = found_next p start first rest place (more e)

pub lan_found : (p start : ℕ) (lans : List NetLan) (place : ℕ) → lan_from p start lans ≡ Some place → FoundLan p start lans place
lan_found p start [] place e = cc
lan_found p start (first ∷ rest) place e = found_here p start first rest place (list_any (nat_eq p) first.gateways) refl (lan_found p (suc start) rest place) e

-- with one more LAN, that of a gateway stays
old_here : (p start : ℕ) (rest : List NetLan) (lan : NetLan) (place : ℕ) (b : Bool) → (lan_from p (suc start) rest ≡ Some place → lan_from p (suc start) (rest ++ lan ∷ []) ≡ Some place)
    → (if b then Some start else lan_from p (suc start) rest) ≡ Some place → (if b then Some start else lan_from p (suc start) (rest ++ lan ∷ [])) ≡ Some place
old_here p start rest lan place true more e = e
old_here p start rest lan place false more e = more e

pub old_stays : (p start : ℕ) (lans : List NetLan) (lan : NetLan) (place : ℕ) → lan_from p start lans ≡ Some place → lan_from p start (lans ++ lan ∷ []) ≡ Some place
old_stays p start [] lan place e = cc
old_stays p start (first ∷ rest) lan place e = old_here p start rest lan place (list_any (nat_eq p) first.gateways) (old_stays p (suc start) rest lan place) e

-- and a node that was none has the new one, if it is a gateway of that
new_here : (p start : ℕ) (first : NetLan) (rest : List NetLan) (lan : NetLan) (b : Bool)
    → (lan_from p (suc start) rest ≡ None → lan_from p (suc start) (rest ++ lan ∷ []) ≡ cond (list_any (nat_eq p) lan.gateways) (Some (suc start + length rest)) None)
    → (if b then Some start else lan_from p (suc start) rest) ≡ None
    → (if b then Some start else lan_from p (suc start) (rest ++ lan ∷ [])) ≡ cond (list_any (nat_eq p) lan.gateways) (Some (start + suc (length rest))) None
new_here p start first rest lan true more e = cc
new_here p start first rest lan false more e = more e ∙ ap (λ n. cond (list_any (nat_eq p) lan.gateways) (Some n) None) (plus start (length rest))
  where
    plus : (a b : ℕ) → suc a + b ≡ a + suc b
    plus a b = omega arith

pub new_last : (p start : ℕ) (lans : List NetLan) (lan : NetLan) → lan_from p start lans ≡ None → lan_from p start (lans ++ lan ∷ []) ≡ cond (list_any (nat_eq p) lan.gateways) (Some (start + length lans)) None
new_last p start [] lan e = ap (λ n. cond (list_any (nat_eq p) lan.gateways) (Some n) None) (zero_more start)
  where
    zero_more : (a : ℕ) → a ≡ a + 0
    zero_more a = omega arith
new_last p start (first ∷ rest) lan e = new_here p start first rest lan (list_any (nat_eq p) first.gateways) (new_last p (suc start) rest lan) e
