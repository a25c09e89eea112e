-- Every move keeps the invariant while there is no alias, and what follows.
use Rattle.std.proofs.Common.{◌≡◌, ◌⊎◌, inl, inr, ℕ, ◌<◌, List, [], ◌∷◌, length, map, Option, Some, Ok, refl, sym, ap, ◌∙◌, subst, arith}
use Rattle.mesh_base.specs.declared.client.Entry.{Entry}
use Rattle.mesh_base.specs.declared.client.Vid.{Vid}
use Rattle.mesh_model.specs.Packets.Bodies.{VlanSum}
use Rattle.mesh_model.specs.declared.table_change.Change.{Change}
use Rattle.mesh_model.specs.Tables.Changes.{addition}
use Rattle.mesh_model.specs.Tables.Strict.{apply_strictly}
use Rattle.mesh_model.specs.Tables.Sums.{checksums, sum_at}
use Rattle.mesh_model.specs.Tables.Versions.{Version, next_byte}
use Rattle.mesh_laws.specs.HeldLaws.{AreCommits}
use Rattle.mesh_laws.specs.Machine.Pieces.{piece, piece_count, put_together}
use Rattle.mesh_laws.specs.Machine.World.{Announcement, Differences, Piece, Told, World, start, commit_numbered, IsCommit, silent_node}
use Rattle.mesh_laws.specs.Machine.Moves.{Move, commits, announces, answers_changes, answers_piece, passes, is_told, takes_changes, takes_full, drops, Reaches, no_move, then_move, AreLastChanges, announcement_of, differences_to, piece_of, held_when_told, WereOffered, PieceWasSaid, agreed_node}
use Rattle.mesh_laws.specs.Machine.Agreement.{HasNoAlias, AreOf, LeadTo, Agrees}
use Rattle.mesh_laws.specs.Machine.MachineLaws.{SayingsAgree, HeldAreCommits, ToldAreCommits, AgreedHoldTheTold}
use Rattle.mesh_laws.proofs.AnnouncedSums.{announces_checksums, announces_none_of_empty}
use Rattle.mesh_laws.proofs.CommitLemmas.{led_to_commit, made_of_commit}
use Rattle.mesh_laws.proofs.PieceLemmas.{pieces_make_table, same_together}
use Rattle.mesh_laws.proofs.MachineInvariant.{Good, IsToldOf, good_start, good_commit, good_saying, good_node, commit_kept, last_numbered, last_lead}

-- ---- what a node is told
told_held : (cs : List Version) (c : Version) (byte : ℕ) (sums : List VlanSum) (old : Option Version) → IsCommit cs c → AreOf c byte sums → ((h : Version) → old ≡ Some h → IsCommit cs h) → (h : Version) → held_when_told byte sums old ≡ Some h → IsCommit cs h
told_held cs c byte [] old is of held h e =
    let empty : c.table ≡ [] = (announces_none_of_empty c.table).0 (sym of.1) in
    let same : c ≡ record { byte = byte; table = [] } = λ i. record { byte = sym of.0 i; table = empty i } in
    let told : record { byte = byte; table = [] } ≡ h = cc in
    subst (IsCommit cs) (same ∙ told) is
told_held cs c byte (first ∷ others) old is of held h e = held h e

-- ---- taking changes
are_commits : (w : World) → Good w → HasNoAlias w.commits → AreCommits w.commits
are_commits w g none = record { bytes = λ c is. g.bytes is.0 c is.1; ordered = λ c is. g.ordered is.0 c is.1; no_alias = none }

-- an agreement of what changes lead to
record Offer (cs : List Version) (byte : ℕ) (sums : List VlanSum) (changes : List Change) : Type 0 where
  number : ℕ
  commit : Version
  is_commit : commit_numbered number cs ≡ Some commit
  of : AreOf commit byte sums
  leads : LeadTo cs number commit changes

offer_agrees : (w : World) (byte : ℕ) (sums : List VlanSum) (changes : List Change) → Good w → WereOffered w.said byte sums changes → Offer w.commits byte sums changes
offer_agrees w byte sums changes g (inl announced) = go (g.said (Announcement announced.0 byte sums changes) announced.1)
  where
    go : Agrees w.commits (Announcement announced.0 byte sums changes) → Offer w.commits byte sums changes
    go a = elim a.3 as (λ x. Offer w.commits byte sums changes) [
      | inl none ↦ absurd (announced.2 none)
      | inr leads ↦ record { number = announced.0; commit = a.0; is_commit = a.1; of = a.2; leads = leads }
    ]
offer_agrees w byte sums changes g (inr said) =
    let a : Agrees w.commits (Differences byte sums changes) = g.said (Differences byte sums changes) said in
    record { number = a.0; commit = a.1; is_commit = a.2; of = a.3; leads = a.4 }

-- what is taken by changes is a commit
taken_by_changes : (w : World) (t : Told) (h : Version) (sums : List VlanSum) (changes : List Change) (table : List Entry) → Good w → HasNoAlias w.commits → IsCommit w.commits h → WereOffered w.said t.byte sums changes → sum_at sums ≡ sum_at t.sums → t.byte ≡ next_byte h.byte → apply_strictly h.table changes ≡ Ok table → checksums table ≡ sum_at t.sums → IsCommit w.commits (record { byte = t.byte; table = table })
taken_by_changes w t h sums changes table g none held offered carried next strict result =
    let o : Offer w.commits t.byte sums changes = offer_agrees w t.byte sums changes g offered in
    let after : checksums table ≡ checksums o.commit.table = result ∙ sym carried ∙ ap sum_at o.of.1 ∙ announces_checksums o.commit.table in
    let same : o.commit.table ≡ table = led_to_commit w.commits (are_commits w g none) o.number o.commit h changes table o.is_commit o.leads held (sym o.of.0 ∙ next) strict after in
    let version : o.commit ≡ record { byte = t.byte; table = table } = λ i. record { byte = sym o.of.0 i; table = same i } in
    subst (IsCommit w.commits) version (o.number, o.is_commit)

-- ---- taking a full answer
-- a piece that was said is one of a commit
record FromCommit (cs : List Version) (byte : ℕ) (sums : Vid → ℕ) (place count : ℕ) (records : List Change) : Type 0 where
  commit : Version
  is_commit : IsCommit cs commit
  byte_is : commit.byte ≡ byte
  sums_are : checksums commit.table ≡ sums
  count_is : count ≡ piece_count commit.table
  records_are : records ≡ piece place commit.table

piece_agrees : (w : World) (byte : ℕ) (sums : Vid → ℕ) (place count : ℕ) (records : List Change) → Good w → PieceWasSaid w.said byte sums place count records → FromCommit w.commits byte sums place count records
piece_agrees w byte sums place count records g said =
    let a : Agrees w.commits (Piece byte said.0 place count records) = g.said (Piece byte said.0 place count records) said.2 in
    record {
      commit = a.0;
      is_commit = a.1;
      byte_is = sym a.2.0;
      sums_are = sym (sym said.1 ∙ ap sum_at a.2.1 ∙ announces_checksums a.0.table);
      count_is = a.3;
      records_are = a.5;
    }

-- what is taken from a full answer is a commit
taken_in_full : (w : World) (t : Told) (count : ℕ) (pieces : ℕ → List Change) (table : List Entry) → Good w → HasNoAlias w.commits → 0 < count → ((place : ℕ) → place < count → PieceWasSaid w.said t.byte (sum_at t.sums) place count (pieces place)) → apply_strictly [] (put_together count pieces) ≡ Ok table → IsCommit w.commits (record { byte = t.byte; table = table })
taken_in_full w t count pieces table g none some said strict =
    let from : (place : ℕ) → place < count → FromCommit w.commits t.byte (sum_at t.sums) place count (pieces place) =
    λ place below. piece_agrees w t.byte (sum_at t.sums) place count (pieces place) g (said place below) in
    let first : FromCommit w.commits t.byte (sum_at t.sums) 0 count (pieces 0) = from 0 some in
    let whole : List Entry = first.commit.table in
    let each : (place : ℕ) → place < count → pieces place ≡ piece place whole = λ place below.
    let other : FromCommit w.commits t.byte (sum_at t.sums) place count (pieces place) = from place below in
    other.records_are ∙ ap (piece place) (none other.commit first.commit other.is_commit first.is_commit (other.byte_is ∙ sym first.byte_is) (other.sums_are ∙ sym first.sums_are)) in
    let together : put_together count pieces ≡ map addition whole =
    same_together pieces (λ place. piece place whole) 0 count (λ place below. each place (omega arith))
    ∙ ap (λ n. put_together n (λ place. piece place whole)) first.count_is ∙ pieces_make_table whole in
    let same : whole ≡ table = made_of_commit w.commits (are_commits w g none) first.commit table first.is_commit (sym (ap (apply_strictly []) together) ∙ strict) in
    let version : first.commit ≡ record { byte = t.byte; table = table } = λ i. record { byte = first.byte_is i; table = same i } in
    subst (IsCommit w.commits) version first.is_commit

-- ---- one move, and any number of them
is_held : (cs : List Version) (v h : Version) → IsCommit cs v → ◌≡◌ {A = Option Version} (Some v) (Some h) → IsCommit cs h
is_held cs v h is e =
    let same : v ≡ h = cc in
    subst (IsCommit cs) same is

was_told : (cs : List Version) (t u : Told) → IsToldOf cs t → ◌≡◌ {A = Option Told} (Some t) (Some u) → IsToldOf cs u
was_told cs t u is e =
    let same : t ≡ u = cc in
    subst (IsToldOf cs) same is

piece_said : (cs : List Version) (v : Version) (place : ℕ) → IsCommit cs v → place < piece_count v.table → Agrees cs (piece_of v place)
piece_said cs v place is below = (v, is, (refl, refl), refl, below, refl)

kept_by_move : (u v : World) → Move u v → Good u → HasNoAlias u.commits → Good v
kept_by_move _ _ (commits w c byte ordered) g none = good_commit w c byte ordered g
kept_by_move _ _ (announces w last older changes is carried) g none =
    good_saying w (announcement_of (length older) last changes) (subst (λ cs. Agrees cs (announcement_of (length older) last changes)) (sym is) (last, last_numbered last older, (refl, refl), leads carried)) g
  where
    leads : (changes ≡ []) ⊎ AreLastChanges (last ∷ older) changes → (changes ≡ []) ⊎ LeadTo (last ∷ older) (length older) last changes
    leads (inl none) = inl none
    leads (inr some) = inr (last_lead last older changes some)
kept_by_move _ _ (answers_changes w last older changes is some) g none =
    good_saying w (differences_to last changes) (subst (λ cs. Agrees cs (differences_to last changes)) (sym is) (length older, last, last_numbered last older, (refl, refl), last_lead last older changes some)) g
kept_by_move _ _ (answers_piece w last older place is below) g none =
    good_saying w (piece_of last place) (piece_said w.commits last place (subst (λ cs. IsCommit cs last) (sym is) (length older, last_numbered last older)) below) g
kept_by_move _ _ (passes w m held place is below) g none = good_saying w (piece_of held place) (piece_said w.commits held place (g.held m held is) below) g
kept_by_move _ _ (is_told w m number byte sums changes said) g none =
    let a : Agrees w.commits (Announcement number byte sums changes) = g.said (Announcement number byte sums changes) said in
    good_node w m _
    (told_held w.commits a.0 byte sums (w.nodes m).held (number, a.1) a.2 (g.held m))
    (λ t e. was_told w.commits (record { number = number; byte = byte; sums = sums }) t (a.0, a.1, a.2) e) g
kept_by_move _ _ (takes_changes w m told held sums changes table tells holds offered carried next strict result) g none =
    good_node w m (agreed_node told table)
    (λ h e. is_held w.commits (record { byte = told.byte; table = table }) h (taken_by_changes w told held sums changes table g none (g.held m held holds) offered carried next strict result) e)
    (λ t e. was_told w.commits told t (g.told m told tells) e) g
kept_by_move _ _ (takes_full w m told count pieces table tells some said strict result) g none =
    good_node w m (agreed_node told table)
    (λ h e. is_held w.commits (record { byte = told.byte; table = table }) h (taken_in_full w told count pieces table g none some said strict) e)
    (λ t e. was_told w.commits told t (g.told m told tells) e) g
kept_by_move _ _ (drops w m) g none = good_node w m silent_node (λ h e. cc) (λ t e. cc) g

-- commits that have no alias had none before
no_alias_before : (u v : World) → Move u v → HasNoAlias v.commits → HasNoAlias u.commits
no_alias_before _ _ (commits w c byte ordered) none = λ a b is_a is_b. none a b (commit_kept c w.commits a is_a) (commit_kept c w.commits b is_b)
no_alias_before _ _ (announces w last older changes is carried) none = none
no_alias_before _ _ (answers_changes w last older changes is some) none = none
no_alias_before _ _ (answers_piece w last older place is below) none = none
no_alias_before _ _ (passes w m held place is below) none = none
no_alias_before _ _ (is_told w m number byte sums changes said) none = none
no_alias_before _ _ (takes_changes w m told held sums changes table tells holds offered carried next strict result) none = none
no_alias_before _ _ (takes_full w m told count pieces table tells some said strict result) none = none
no_alias_before _ _ (drops w m) none = none

kept : (u w : World) → Reaches u w → Good u → HasNoAlias w.commits → Good w
kept _ _ (no_move w) g none = g
kept _ _ (then_move u v w before move) g none =
    let none_before : HasNoAlias v.commits = no_alias_before v w move none in
    kept_by_move v w move (kept u v before g none_before) none_before

-- ---- the laws
pub sayings_agree : SayingsAgree
sayings_agree w r none = (kept start w r good_start none).said

pub held_are_commits : HeldAreCommits
held_are_commits w r none = (kept start w r good_start none).held

pub told_are_commits : ToldAreCommits
told_are_commits w r none = (kept start w r good_start none).told

pub agreed_hold_the_told : AgreedHoldTheTold
agreed_hold_the_told w r none m told held tells holds agreed =
    let g : Good w = kept start w r good_start none in
    let of : IsToldOf w.commits told = g.told m told tells in
    let sums : checksums held.table ≡ checksums of.0.table = agreed.1 ∙ ap sum_at of.2.1 ∙ announces_checksums of.0.table in
    (of.0, of.1, none held of.0 (g.held m held holds) (told.number, of.1) (agreed.0 ∙ of.2.0) sums)
