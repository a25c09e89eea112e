-- What holds of each entry that is committed holds of each that is said or held.
use Rattle.std.proofs.Common.{◌≡◌, inl, inr, ◌<◌, ◌+◌, ◌*◌, ℕ, zero, suc, Bool, true, false, cond, not, ◌==◌, List, [], ◌∷◌, ◌++◌, length, map, filter, take, drop, flat_map, Option, Some, None, option_map, ok_or, Ok, refl, sym, ap, subst, ◌∙◌, arith, Ordering, Less, Equal, Greater}
use Rattle.std.specs.List.{AllByRecursion, range_with_len}
use Rattle.std.specs.Ordering.{match_ordering}
use Rattle.mesh_base.specs.KeyOrder.{key_order}
use Rattle.mesh_base.specs.declared.client.Entry.{Entry}
use Rattle.mesh_model.specs.Packets.Bodies.{VlanSum}
use Rattle.mesh_model.specs.declared.table_change.Change.{Change}
use Rattle.mesh_model.specs.Tables.Changes.{addition, changeset, deletion, has_entry, missing_from}
use Rattle.mesh_model.specs.Tables.Strict.{additions, and_then, apply_strictly, change_each, change_one, deletions, with_entry, without_entry}
use Rattle.mesh_model.specs.Tables.Sums.{sums_of}
use Rattle.mesh_model.specs.Tables.Versions.{Version}
use Rattle.mesh_laws.specs.Machine.Moves.{Move, commits, announces, answers_changes, answers_piece, passes, is_told, takes_changes, takes_full, drops, Reaches, no_move, then_move, AreLastChanges, WereOffered, agreed_node, held_when_told}
use Rattle.mesh_laws.specs.Machine.Pieces.{piece, piece_count, piece_size, put_together}
use Rattle.mesh_laws.specs.Machine.World.{Node, Saying, Announcement, Differences, Piece, World, WasSaid, commit_numbered, silent_node, start, with_node, with_saying}
use Rattle.mesh_laws.proofs.MachineInvariant.{last_numbered, numbered_kept}

-- ---- lists
pub each_filtered : {X : Type 0} (P : X → Type 0) (test : X → Bool) (xs : List X) → AllByRecursion P xs → AllByRecursion P (filter test xs)
each_filtered P test [] all = tt
each_filtered P test (x ∷ xs) all = go (test x) (each_filtered P test xs all.1)
  where
    go : (b : Bool) → AllByRecursion P (filter test xs) → AllByRecursion P (cond b (x ∷ filter test xs) (filter test xs))
    go true rest = (all.0, rest)
    go false rest = rest

pub each_appended : {X : Type 0} (P : X → Type 0) (xs ys : List X) → AllByRecursion P xs → AllByRecursion P ys → AllByRecursion P (xs ++ ys)
each_appended P [] ys all more = more
each_appended P (x ∷ xs) ys all more = (all.0, each_appended P xs ys all.1 more)

pub each_flat : {X Y : Type 0} (P : Y → Type 0) (f : X → List Y) (xs : List X) → AllByRecursion (λ x. AllByRecursion P (f x)) xs → AllByRecursion P (flat_map f xs)
each_flat P f [] all = tt
each_flat P f (x ∷ xs) all = each_appended P (f x) (flat_map f xs) all.0 (each_flat P f xs all.1)

pub each_of_any : {X : Type 0} (P : X → Type 0) (xs : List X) → ((x : X) → P x) → AllByRecursion P xs
each_of_any P [] any = tt
each_of_any P (x ∷ xs) any = (any x, each_of_any P xs any)

pub each_numbered : {X : Type 0} (P : X → Type 0) (f : ℕ → X) (first count : ℕ) → ((place : ℕ) → place < first + count → P (f place)) → AllByRecursion P (map f (range_with_len first count))
each_numbered P f first zero all = tt
each_numbered P f first (suc count) all = (all first (omega arith), each_numbered P f (first + 1) count (λ place below. all place (omega (arith, below))))

each_taken : {X : Type 0} (P : X → Type 0) (n : ℕ) (xs : List X) → AllByRecursion P xs → AllByRecursion P (take n xs)
each_taken P zero xs all = tt
each_taken P (suc n) [] all = tt
each_taken P (suc n) (x ∷ xs) all = (all.0, each_taken P n xs all.1)

pub each_dropped : {X : Type 0} (P : X → Type 0) (n : ℕ) (xs : List X) → AllByRecursion P xs → AllByRecursion P (drop n xs)
each_dropped P zero xs all = all
each_dropped P (suc n) [] all = tt
each_dropped P (suc n) (x ∷ xs) all = each_dropped P n xs all.1

-- ---- changes
-- it holds of the entry of each change
abbrev pub OfChange : (Entry → Type 0) → Change → Type 0
OfChange P change = P change.entry

each_deletion : (P : Entry → Type 0) (table : List Entry) → AllByRecursion P table → AllByRecursion (OfChange P) (map deletion table)
each_deletion P [] all = tt
each_deletion P (e ∷ table) all = (all.0, each_deletion P table all.1)

pub each_addition : (P : Entry → Type 0) (table : List Entry) → AllByRecursion P table → AllByRecursion (OfChange P) (map addition table)
each_addition P [] all = tt
each_addition P (e ∷ table) all = (all.0, each_addition P table all.1)

pub each_changed : (P : Entry → Type 0) (old new : List Entry) → AllByRecursion P old → AllByRecursion P new → AllByRecursion (OfChange P) (changeset old new)
each_changed P old new before after = each_appended (OfChange P) (map deletion (missing_from new old)) (map addition (missing_from old new))
    (each_deletion P (missing_from new old) (each_filtered P (λ entry. not (has_entry new entry)) old before))
    (each_addition P (missing_from old new) (each_filtered P (λ entry. not (has_entry old entry)) new after))

-- ---- strict application
each_of : (P : Entry → Type 0) (first : Entry) (o : Option (List Entry)) (after : List Entry) → P first → ((t : List Entry) → o ≡ Some t → AllByRecursion P t)
    → option_map (λ others. first ∷ others) o ≡ Some after → AllByRecursion P after
each_of P first None after one more is = cc
each_of P first (Some t) after one more is = let same : first ∷ t ≡ after = cc in subst (AllByRecursion P) same (one, more t refl)

each_without : (P : Entry → Type 0) (e : Entry) (table after : List Entry) → AllByRecursion P table → without_entry e table ≡ Some after → AllByRecursion P after
each_without P e [] after all is = cc
each_without P e (first ∷ rest) after all is = go (key_order e.key first.key) (e.flags == first.flags) is (λ t q. each_without P e rest t all.1 q)
  where
    go : (r : Ordering) (b : Bool) → match_ordering r None (cond b (Some rest) None) (option_map (λ others. first ∷ others) (without_entry e rest)) ≡ Some after
        → ((t : List Entry) → without_entry e rest ≡ Some t → AllByRecursion P t) → AllByRecursion P after
    go Less b q more = cc
    go Equal true q more = let same : rest ≡ after = cc in subst (AllByRecursion P) same all.1
    go Equal false q more = cc
    go Greater b q more = each_of P first (without_entry e rest) after all.0 more q

each_with : (P : Entry → Type 0) (e : Entry) (table after : List Entry) → P e → AllByRecursion P table → with_entry e table ≡ Some after → AllByRecursion P after
each_with P e [] after one all is = let same : e ∷ [] ≡ after = cc in subst (AllByRecursion P) same (one, tt)
each_with P e (first ∷ rest) after one all is = go (key_order e.key first.key) is (λ t q. each_with P e rest t one all.1 q)
  where
    go : (r : Ordering) → match_ordering r (Some (e ∷ first ∷ rest)) None (option_map (λ others. first ∷ others) (with_entry e rest)) ≡ Some after
        → ((t : List Entry) → with_entry e rest ≡ Some t → AllByRecursion P t) → AllByRecursion P after
    go Less q more = let same : e ∷ first ∷ rest ≡ after = cc in subst (AllByRecursion P) same (one, all)
    go Equal q more = cc
    go Greater q more = each_of P first (with_entry e rest) after all.0 more q

each_one : (P : Entry → Type 0) (c : Change) (table after : List Entry) → P c.entry → AllByRecursion P table → change_one c table ≡ Some after → AllByRecursion P after
each_one P c table after one all is = go c.del is
  where
    go : (b : Bool) → cond b (without_entry c.entry table) (with_entry c.entry table) ≡ Some after → AllByRecursion P after
    go true q = each_without P c.entry table after all q
    go false q = each_with P c.entry table after one all q

each_strict : (P : Entry → Type 0) (changes : List Change) (table after : List Entry) → AllByRecursion (OfChange P) changes → AllByRecursion P table → change_each changes table ≡ Ok after → AllByRecursion P after
each_strict P [] table after some all is = let same : table ≡ after = cc in subst (AllByRecursion P) same all
each_strict P (c ∷ changes) table after some all is = go (change_one c table) is (λ t q. each_one P c table t some.0 all q) (λ t all q. each_strict P changes t after some.1 all q)
  where
    go : (o : Option (List Entry)) → and_then (change_each changes) (ok_or o c) ≡ Ok after → ((t : List Entry) → o ≡ Some t → AllByRecursion P t)
        → ((t : List Entry) → AllByRecursion P t → change_each changes t ≡ Ok after → AllByRecursion P after) → AllByRecursion P after
    go None q one more = cc
    go (Some t) q one more = more t (one t refl) q

pub each_applied : (P : Entry → Type 0) (changes : List Change) (table after : List Entry) → AllByRecursion (OfChange P) changes → AllByRecursion P table → apply_strictly table changes ≡ Ok after → AllByRecursion P after
each_applied P changes table after some all is = each_strict P (deletions changes ++ additions changes) table after
    (each_appended (OfChange P) (deletions changes) (additions changes) (each_filtered (OfChange P) (λ change. change.del) changes some) (each_filtered (OfChange P) (λ change. not change.del) changes some)) all is

-- ---- the worlds of the machine
abbrev OfSaying : (Entry → Type 0) → Saying → Type 0
OfSaying P (Announcement number byte sums changes) = AllByRecursion (OfChange P) changes
OfSaying P (Differences byte sums changes) = AllByRecursion (OfChange P) changes
OfSaying P (Piece byte sums place count records) = AllByRecursion (OfChange P) records

-- it holds of each entry that was committed
abbrev pub OfCommits : (Entry → Type 0) → List Version → Type 0
OfCommits P made = (number : ℕ) (commit : Version) → commit_numbered number made ≡ Some commit → AllByRecursion P commit.table

pub record OfWorld (P : Entry → Type 0) (w : World) : Type 0 where
  pub said : (x : Saying) → WasSaid w.said x → OfSaying P x
  pub held : (m : ℕ) (held : Version) → (w.nodes m).held ≡ Some held → AllByRecursion P held.table

last_of : (P : Entry → Type 0) (made : List Version) (last : Version) (older : List Version) → OfCommits P made → made ≡ last ∷ older → AllByRecursion P last.table
last_of P made last older all is = all (length older) last (ap (commit_numbered (length older)) is ∙ last_numbered last older)

pub changes_of : (P : Entry → Type 0) (made : List Version) (last : Version) (older : List Version) (changes : List Change) → OfCommits P made → made ≡ last ∷ older → AreLastChanges (last ∷ older) changes → AllByRecursion (OfChange P) changes
changes_of P made last [] changes all is are = absurd are
changes_of P made last (before ∷ older) changes all is are =
    subst (AllByRecursion (OfChange P)) (sym are.1) (each_changed P before.table last.table
    (all (length older) before (ap (commit_numbered (length older)) is ∙ numbered_kept last (length older) (before ∷ older) before (last_numbered before older)))
    (last_of P made last (before ∷ older) all is))

pub piece_of_table : (P : Entry → Type 0) (place : ℕ) (table : List Entry) → AllByRecursion P table → AllByRecursion (OfChange P) (piece place table)
piece_of_table P place table all = each_addition P (take piece_size (drop (place * piece_size) table)) (each_taken P piece_size (drop (place * piece_size) table) (each_dropped P (place * piece_size) table all))

with_said : (P : Entry → Type 0) (said : List Saying) (x : Saying) → OfSaying P x → ((y : Saying) → WasSaid said y → OfSaying P y) → (y : Saying) → WasSaid (x ∷ said) y → OfSaying P y
with_said P said x one all y (inl same) = subst (OfSaying P) (sym same) one
with_said P said x one all y (inr before) = all y before

with_held : (P : Entry → Type 0) (w : World) (m : ℕ) (node : Node) → ((held : Version) → node.held ≡ Some held → AllByRecursion P held.table)
    → ((k : ℕ) (held : Version) → (w.nodes k).held ≡ Some held → AllByRecursion P held.table)
    → (k : ℕ) (held : Version) (b : Bool) → (cond b node (w.nodes k)).held ≡ Some held → AllByRecursion P held.table
with_held P w m node new old k held true is = new held is
with_held P w m node new old k held false is = old k held is

told_holds : (P : Entry → Type 0) (byte : ℕ) (sums : List VlanSum) (before : Option Version) → ((held : Version) → before ≡ Some held → AllByRecursion P held.table) → (held : Version) → held_when_told byte sums before ≡ Some held → AllByRecursion P held.table
told_holds P byte [] before old held is = let same : [] ≡ held.table = ap (λ (o : Option Version). table_in o) is in subst (AllByRecursion P) same tt
  where
    table_in : Option Version → List Entry
    table_in None = []
    table_in (Some v) = v.table
told_holds P byte (first ∷ others) before old held is = old held is

offered_of : (P : Entry → Type 0) (w : World) (byte : ℕ) (sums : List VlanSum) (changes : List Change) → OfWorld P w → WereOffered w.said byte sums changes → AllByRecursion (OfChange P) changes
offered_of P w byte sums changes all (inl announced) = all.said (Announcement announced.0 byte sums changes) announced.1
offered_of P w byte sums changes all (inr answered) = all.said (Differences byte sums changes) answered

pieces_of : (P : Entry → Type 0) (pieces : ℕ → List Change) (first count : ℕ) → ((place : ℕ) → place < first + count → AllByRecursion (OfChange P) (pieces place)) → AllByRecursion (OfChange P) (flat_map pieces (range_with_len first count))
pieces_of P pieces first zero all = tt
pieces_of P pieces first (suc count) all = each_appended (OfChange P) (pieces first) (flat_map pieces (range_with_len (first + 1) count)) (all first (omega arith)) (pieces_of P pieces (first + 1) count (λ place below. all place (omega (arith, below))))

-- ---- each move keeps it
said_more : (P : Entry → Type 0) (w : World) (x : Saying) → OfSaying P x → OfWorld P w → OfWorld P (with_saying x w)
said_more P w x one all = record { said = with_said P w.said x one all.said; held = all.held }

node_other : (P : Entry → Type 0) (w : World) (m : ℕ) (node : Node) → ((held : Version) → node.held ≡ Some held → AllByRecursion P held.table) → OfWorld P w → OfWorld P (with_node m node w)
node_other P w m node new all = record {
  said = all.said;
  held = λ k held is. with_held P w m node new all.held k held (k == m) is;
}

held_table : (P : Entry → Type 0) (byte : ℕ) (table : List Entry) → AllByRecursion P table → (held : Version) → Some (record { byte = byte; table = table }) ≡ Some held → AllByRecursion P held.table
held_table P byte table all held is = let same : record { byte = byte; table = table } ≡ held = cc in subst (λ (v : Version). AllByRecursion P v.table) same all

move_keeps : (P : Entry → Type 0) (w v : World) → Move w v → OfCommits P w.commits → OfWorld P w → OfWorld P v
move_keeps P w _ (commits _ version byte order) made all = record { said = all.said; held = all.held }
move_keeps P w _ (announces _ last older changes is (inl none)) made all = said_more P w (Announcement (length older) last.byte (sums_of last.table) changes) (subst (AllByRecursion (OfChange P)) (sym none) tt) all
move_keeps P w _ (announces _ last older changes is (inr are)) made all = said_more P w (Announcement (length older) last.byte (sums_of last.table) changes) (changes_of P w.commits last older changes made is are) all
move_keeps P w _ (answers_changes _ last older changes is are) made all = said_more P w (Differences last.byte (sums_of last.table) changes) (changes_of P w.commits last older changes made is are) all
move_keeps P w _ (answers_piece _ last older place is below) made all = said_more P w (Piece last.byte (sums_of last.table) place (piece_count last.table) (piece place last.table)) (piece_of_table P place last.table (last_of P w.commits last older made is)) all
move_keeps P w _ (passes _ m held place is below) made all = said_more P w (Piece held.byte (sums_of held.table) place (piece_count held.table) (piece place held.table)) (piece_of_table P place held.table (all.held m held is)) all
move_keeps P w _ (is_told _ m number byte sums changes said) made all = node_other P w m (record { told = Some (record { number = number; byte = byte; sums = sums }); held = held_when_told byte sums (w.nodes m).held }) (told_holds P byte sums (w.nodes m).held (λ held is. all.held m held is)) all
move_keeps P w _ (takes_changes _ m told held sums changes table t h offered carried next strict result) made all =
    node_other P w m (agreed_node told table) (held_table P told.byte table (each_applied P changes held.table table (offered_of P w told.byte sums changes all offered) (all.held m held h) strict)) all
move_keeps P w _ (takes_full _ m told count pieces table t some said strict result) made all =
    node_other P w m (agreed_node told table) (held_table P told.byte table (each_applied P (put_together count pieces) [] table
    (pieces_of P pieces 0 count (λ place below. let p = said place (omega (arith, below)) in all.said (Piece told.byte p.0 place count (pieces place)) p.2)) tt strict)) all
move_keeps P w _ (drops _ m) made all = node_other P w m silent_node (λ held is. absurd cc) all

-- commits only grow
earlier_commits : (P : Entry → Type 0) (w v : World) → Move w v → OfCommits P v.commits → OfCommits P w.commits
earlier_commits P w _ (commits _ version byte order) made = λ n c is. made n c (numbered_kept version n w.commits c is)
earlier_commits P w _ (announces _ last older changes is a) made = made
earlier_commits P w _ (answers_changes _ last older changes is are) made = made
earlier_commits P w _ (answers_piece _ last older place is below) made = made
earlier_commits P w _ (passes _ m held place is below) made = made
earlier_commits P w _ (is_told _ m number byte sums changes said) made = made
earlier_commits P w _ (takes_changes _ m told held sums changes table t h offered carried next strict result) made = made
earlier_commits P w _ (takes_full _ m told count pieces table t some said strict result) made = made
earlier_commits P w _ (drops _ m) made = made

keeps_from : (P : Entry → Type 0) (u w : World) → Reaches u w → OfCommits P w.commits → OfWorld P u → OfWorld P w
keeps_from P u _ (no_move _) made all = all
keeps_from P u _ (then_move _ v w r m) made all =
    let before : OfCommits P v.commits = earlier_commits P v w m made in
    move_keeps P v w m before (keeps_from P u v r before all)

-- in every world that moves reach
pub reached_entries : (P : Entry → Type 0) (w : World) → Reaches start w → OfCommits P w.commits → OfWorld P w
reached_entries P w r made = keeps_from P start w r made (record {
  said = λ x is. absurd is;
  held = λ m held is. absurd cc;
})
