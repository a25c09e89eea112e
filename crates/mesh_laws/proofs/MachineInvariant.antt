-- What every move of the table machine keeps, and the parts of it that hold as commits are added.
use Rattle.std.proofs.Common.{◌≡◌, ◌⊎◌, inl, inr, ℕ, suc, ◌<◌, Bool, true, false, cond, ◌==◌, List, [], ◌∷◌, length, Some, refl, sym, ap, ◌∙◌, subst, arith}
use Rattle.std.proofs.lemmas.Bool.{eqb-true, eq-eqb, ne_eqb}
use Rattle.std.specs.List.Sorted.{IsStrictlySortedBy}
use Rattle.mesh_model.specs.declared.table_change.Change.{Change}
use Rattle.mesh_model.specs.Tables.Changes.{IsInKeyOrder}
use Rattle.mesh_model.specs.Tables.Versions.{Version}
use Rattle.mesh_laws.specs.Machine.World.{Saying, Announcement, Differences, Piece, Told, Node, World, start, first_commit, commit_numbered, IsCommit, WasSaid, with_commit, with_saying, with_node}
use Rattle.mesh_laws.specs.Machine.Moves.{AreLastChanges}
use Rattle.mesh_laws.specs.Machine.Agreement.{AreOf, LeadTo, Agrees}

-- ---- commits by their numbers
pub number_below : (n : ℕ) (cs : List Version) (c : Version) → commit_numbered n cs ≡ Some c → n < length cs
number_below n [] c h = cc
number_below n (d ∷ cs) c h = go (n == length cs) refl h (number_below n cs c)
  where
    go : (b : Bool) → (n == length cs) ≡ b → cond b (Some d) (commit_numbered n cs) ≡ Some c → (commit_numbered n cs ≡ Some c → n < length cs) → n < suc (length cs)
    go true p h ih =
        let same : n ≡ length cs = eqb-true n (length cs) p in
        omega arith
    go false p h ih =
        let below : n < length cs = ih h in
        omega arith

-- a commit keeps its number as commits are added
pub numbered_kept : (d : Version) (n : ℕ) (cs : List Version) (c : Version) → commit_numbered n cs ≡ Some c → commit_numbered n (d ∷ cs) ≡ Some c
numbered_kept d n cs c h =
    let below : n < length cs = number_below n cs c h in
    ap (λ b. cond b (Some d) (commit_numbered n cs)) (ne_eqb n (length cs) (λ e. omega arith)) ∙ h

pub last_numbered : (c : Version) (cs : List Version) → commit_numbered (length cs) (c ∷ cs) ≡ Some c
last_numbered c cs = ap (λ b. cond b (Some c) (commit_numbered (length cs) cs)) (eq-eqb (length cs) (length cs) refl)

pub commit_kept : (d : Version) (cs : List Version) (c : Version) → IsCommit cs c → IsCommit (d ∷ cs) c
commit_kept d cs c is = (is.0, numbered_kept d is.0 cs c is.1)

-- the newest commit or an older one
pub newest_or_older : (P : Version → Type 0) (d : Version) (cs : List Version) → P d → ((n : ℕ) (c : Version) → commit_numbered n cs ≡ Some c → P c) → (n : ℕ) (c : Version) → commit_numbered n (d ∷ cs) ≡ Some c → P c
newest_or_older P d cs new old n c h = go (n == length cs) h
  where
    go : (b : Bool) → cond b (Some d) (commit_numbered n cs) ≡ Some c → P c
    go true h =
        let same : d ≡ c = cc in
        subst P same new
    go false h = old n c h

-- ---- what was said agrees, also once there are more commits
lead_kept : (d : Version) (cs : List Version) (n : ℕ) (c : Version) (changes : List Change) → LeadTo cs n c changes → LeadTo (d ∷ cs) n c changes
lead_kept d cs n c changes l = record {
  earlier = l.earlier;
  before = l.before;
  number_is = l.number_is;
  was_commit = numbered_kept d l.earlier cs l.before l.was_commit;
  byte_is = l.byte_is;
  changes_are = l.changes_are;
}

pub agrees_kept : (d : Version) (cs : List Version) (x : Saying) → Agrees cs x → Agrees (d ∷ cs) x
agrees_kept d cs (Announcement n byte sums changes) a = (a.0, numbered_kept d n cs a.0 a.1, a.2, carried a.3)
  where
    carried : (changes ≡ []) ⊎ LeadTo cs n a.0 changes → (changes ≡ []) ⊎ LeadTo (d ∷ cs) n a.0 changes
    carried (inl none) = inl none
    carried (inr l) = inr (lead_kept d cs n a.0 changes l)
agrees_kept d cs (Differences byte sums changes) a = (a.0, a.1, numbered_kept d a.0 cs a.1 a.2, a.3, lead_kept d cs a.0 a.1 changes a.4)
agrees_kept d cs (Piece byte sums place count records) a = (a.0, commit_kept d cs a.0 a.1, a.2, a.3, a.4, a.5)

-- the last commit's changes lead to it
pub last_lead : (last : Version) (older : List Version) (changes : List Change) → AreLastChanges (last ∷ older) changes → LeadTo (last ∷ older) (length older) last changes
last_lead last [] changes a = absurd a
last_lead last (before ∷ older) changes a = record {
  earlier = length older;
  before = before;
  number_is = refl;
  was_commit = numbered_kept last (length older) (before ∷ older) before (last_numbered before older);
  byte_is = a.0;
  changes_are = a.1;
}

-- ---- the invariant
-- what a node was told is the byte and sums of the commit of its number
abbrev pub IsToldOf : List Version → Told → Type 0
IsToldOf cs t = (c : Version) × (commit_numbered t.number cs ≡ Some c) × AreOf c t.byte t.sums

pub record Good (w : World) : Type 0 where
  pub bytes : (n : ℕ) (c : Version) → commit_numbered n w.commits ≡ Some c → c.byte < 256
  pub ordered : (n : ℕ) (c : Version) → commit_numbered n w.commits ≡ Some c → IsInKeyOrder c.table
  pub said : (x : Saying) → WasSaid w.said x → Agrees w.commits x
  pub held : (m : ℕ) (h : Version) → (w.nodes m).held ≡ Some h → IsCommit w.commits h
  pub told : (m : ℕ) (t : Told) → (w.nodes m).told ≡ Some t → IsToldOf w.commits t

pub good_start : Good start
unfolding IsStrictlySortedBy
good_start = record {
  bytes = newest_or_older (λ c. c.byte < 256) first_commit [] (omega arith) (λ n c h. cc);
  ordered = newest_or_older (λ c. IsInKeyOrder c.table) first_commit [] tt (λ n c h. cc);
  said = λ x h. absurd h;
  held = λ m h e. cc;
  told = λ m t e. cc;
}

pub good_commit : (w : World) (c : Version) → c.byte < 256 → IsInKeyOrder c.table → Good w → Good (with_commit c w)
good_commit w c byte ordered g = record {
  bytes = newest_or_older (λ d. d.byte < 256) c w.commits byte g.bytes;
  ordered = newest_or_older (λ d. IsInKeyOrder d.table) c w.commits ordered g.ordered;
  said = λ x h. agrees_kept c w.commits x (g.said x h);
  held = λ m h e. commit_kept c w.commits h (g.held m h e);
  told = λ m t e. let known = g.told m t e in (known.0, numbered_kept c t.number w.commits known.0 known.1, known.2);
}

pub good_saying : (w : World) (x : Saying) → Agrees w.commits x → Good w → Good (with_saying x w)
good_saying w x agrees g = record {
  bytes = g.bytes;
  ordered = g.ordered;
  said = said;
  held = g.held;
  told = g.told;
}
  where
    said : (y : Saying) → WasSaid (x ∷ w.said) y → Agrees w.commits y
    said y (inl same) = subst (Agrees w.commits) (sym same) agrees
    said y (inr before) = g.said y before

pub good_node : (w : World) (m : ℕ) (node : Node) → ((h : Version) → node.held ≡ Some h → IsCommit w.commits h) → ((t : Told) → node.told ≡ Some t → IsToldOf w.commits t) → Good w → Good (with_node m node w)
good_node w m node held told g = record {
  bytes = g.bytes;
  ordered = g.ordered;
  said = g.said;
  held = λ k h. either_held k h (k == m);
  told = λ k t. either_told k t (k == m);
}
  where
    either_held : (k : ℕ) (h : Version) (b : Bool) → (cond b node (w.nodes k)).held ≡ Some h → IsCommit w.commits h
    either_held k h true e = held h e
    either_held k h false e = g.held k h e

    either_told : (k : ℕ) (t : Told) (b : Bool) → (cond b node (w.nodes k)).told ≡ Some t → IsToldOf w.commits t
    either_told k t true e = told t e
    either_told k t false e = g.told k t e
