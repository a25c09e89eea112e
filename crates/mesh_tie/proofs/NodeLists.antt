-- Nodes that join, and nodes that note an entry.
use Rattle.std.proofs.Common.{◌≡◌, ◌≢◌, ◌⊎◌, inl, inr, ℕ, zero, suc, false, ◌==◌, List, [], ◌∷◌, ◌++◌, slice_get, Option, Some, None, refl, sym, ap, subst, ◌∙◌, arith}
use Rattle.std.proofs.lemmas.Bool.{ne_eqb}
use Rattle.mesh_model.specs.Clients.Log.{LogEntry}
use Rattle.mesh_model.specs.Net.Inputs.{noted_at, noting}
use Rattle.mesh_model.specs.Net.Mesh.{NodeLog}
use Rattle.mesh_model.specs.Net.Next.{Has}
use Rattle.mesh_laws.proofs.Schedule.Members.{get_last, one_some}
use Rattle.mesh_laws.proofs.Schedule.Steps.{get_front}

-- the node at a place after one noted an entry
pub data Renewed (at : ℕ) (entry : LogEntry) (nodes : List NodeLog) (place : ℕ) (after : NodeLog) : Type 0 where
  another : at ≢ place → slice_get nodes place ≡ Some after → Renewed at entry nodes place after
  itself : (node : NodeLog) → at ≡ place → slice_get nodes place ≡ Some node → after ≡ noting entry node → Renewed at entry nodes place after

pub renewed : (at : ℕ) (entry : LogEntry) (nodes : List NodeLog) (place : ℕ) (after : NodeLog) → slice_get (noted_at at entry nodes) place ≡ Some after → Renewed at entry nodes place after
renewed at entry [] place after e = cc
renewed zero entry (node ∷ rest) zero after e = itself node refl refl (sym (one_some (noting entry node) after e))
renewed zero entry (node ∷ rest) (suc place) after e = another (λ q. omega (arith, q)) e
renewed (suc at) entry (node ∷ rest) zero after e = another (λ q. omega (arith, q)) e
renewed (suc at) entry (node ∷ rest) (suc place) after e = next (renewed at entry rest place after e)
  where
    next : Renewed at entry rest place after → Renewed (suc at) entry (node ∷ rest) (suc place) after
    next (another d f) = another (λ q. d (omega (arith, q))) f
    next (itself n p f is) = itself n (ap suc p) f is

pub noted_none : (at : ℕ) (entry : LogEntry) (nodes : List NodeLog) (place : ℕ) → slice_get (noted_at at entry nodes) place ≡ None → slice_get nodes place ≡ None
noted_none at entry [] place e = refl
noted_none zero entry (node ∷ rest) zero e = cc
noted_none zero entry (node ∷ rest) (suc place) e = e
noted_none (suc at) entry (node ∷ rest) zero e = cc
noted_none (suc at) entry (node ∷ rest) (suc place) e = noted_none at entry rest place e

pub other_place : (at place : ℕ) → at ≢ place → (place == at) ≡ false
other_place at place d = ne_eqb place at (λ q. d (sym q))

-- a node that is there stays, with all that it noted
pub noted_stays : (at : ℕ) (entry : LogEntry) (nodes : List NodeLog) (place : ℕ) (node : NodeLog) → slice_get nodes place ≡ Some node
    → (after : NodeLog) × (slice_get (noted_at at entry nodes) place ≡ Some after) × ((e : LogEntry) → Has node.log e → Has after.log e)
noted_stays at entry [] place node found = cc
noted_stays zero entry (first ∷ rest) zero node found = (noting entry first, refl, λ e has. inr (subst (λ (n : NodeLog). Has n.log e) (sym (one_some first node found)) has))
noted_stays zero entry (first ∷ rest) (suc place) node found = (node, found, λ e has. has)
noted_stays (suc at) entry (first ∷ rest) zero node found = (node, found, λ e has. has)
noted_stays (suc at) entry (first ∷ rest) (suc place) node found = noted_stays at entry rest place node found

-- a new node
pub got_front : (nodes : List NodeLog) (new : NodeLog) (place : ℕ) (n : NodeLog) → slice_get (nodes ++ new ∷ []) place ≡ Some n → (slice_get nodes place ≡ Some n) ⊎ ((n ≡ new) × (slice_get nodes place ≡ None))
got_front nodes new place n got = go (slice_get nodes place) refl (get_last nodes new place n got)
  where
    go : (o : Option NodeLog) → slice_get nodes place ≡ o → (slice_get nodes place ≡ Some n) ⊎ (n ≡ new) → (slice_get nodes place ≡ Some n) ⊎ ((n ≡ new) × (slice_get nodes place ≡ None))
    go o is (inl old) = inl old
    go None is (inr same) = inr (same, is)
    go (Some m) is (inr same) = inl (is ∙ (let both : Some m ≡ Some n = sym (get_front nodes (new ∷ []) place m is) ∙ got in both))

pub none_front : (nodes : List NodeLog) (new : NodeLog) (place : ℕ) → slice_get (nodes ++ new ∷ []) place ≡ None → slice_get nodes place ≡ None
none_front nodes new place none = go (slice_get nodes place) refl
  where
    go : (o : Option NodeLog) → slice_get nodes place ≡ o → slice_get nodes place ≡ None
    go None is = is
    go (Some m) is = absurd (let both : ◌≡◌ {A = Option NodeLog} (Some m) None = sym (get_front nodes (new ∷ []) place m is) ∙ none in cc)

pub no_length : (nodes : List NodeLog) (place other : ℕ) (new : NodeLog) → slice_get (nodes ++ new ∷ []) place ≡ Some new → slice_get nodes place ≡ None → slice_get (nodes ++ new ∷ []) other ≡ Some new → slice_get nodes other ≡ None → place ≡ other
no_length [] zero zero new a b c d = refl
no_length [] zero (suc other) new a b c d = cc
no_length [] (suc place) other new a b c d = cc
no_length (first ∷ rest) zero other new a b c d = cc
no_length (first ∷ rest) (suc place) zero new a b c d = cc
no_length (first ∷ rest) (suc place) (suc other) new a b c d = ap suc (no_length rest place other new a b c d)

pub got_noted : (nodes : List NodeLog) (place : ℕ) (node : NodeLog) (entry : LogEntry) → slice_get nodes place ≡ Some node → slice_get (noted_at place entry nodes) place ≡ Some (noting entry node)
got_noted [] place node entry found = cc
got_noted (first ∷ rest) zero node entry found = ap (λ n. Some (noting entry n)) (one_some first node found)
got_noted (first ∷ rest) (suc place) node entry found = got_noted rest place node entry found
