-- The worked world with an alias, move by move.
use Rattle.std.proofs.Common.{◌≡◌, inl, inr, ℕ, zero, suc, slice_index, ◌<◌, true, false, cond, ◌==◌, List, [], ◌∷◌, map, bit_xor, Some, None, refl, sym, ap, ◌∙◌, arith}
use Rattle.std.proofs.Math.Path.{fun_ext}
use Rattle.std.specs.List.Sorted.{IsStrictlySortedBy}
use Rattle.mesh_base.specs.declared.client.Entry.{Entry}
use Rattle.mesh_model.specs.Tables.Changes.{IsInKeyOrder, addition}
use Rattle.mesh_model.specs.Tables.Checksum.{crc32c}
use Rattle.mesh_model.specs.Tables.Strict.{apply_strictly}
use Rattle.mesh_model.specs.Tables.Sums.{checksums, entries_in, entry_sum, xor_of, sums_of, sum_at}
use Rattle.mesh_model.specs.Tables.Versions.{Version}
use Rattle.mesh_laws.specs.Machine.Pieces.{piece_size, piece_count, piece, put_together}
use Rattle.mesh_laws.specs.Machine.World.{Piece, start, first_commit, commit_numbered, IsCommit}
use Rattle.mesh_laws.specs.Machine.Moves.{Reaches, no_move, then_move, commits, announces, answers_piece, passes, is_told, takes_changes, takes_full, PieceWasSaid, piece_of}
use Rattle.mesh_laws.specs.Machine.Agreement.{Agrees}
use Rattle.mesh_laws.specs.Machine.Misled.{one_client, other_client, third_client, one_commit, other_commit, third_commit, misled_version, told_of, told_and_holds, one_said, one_held, third_said, misled_world, IsMisled}
use Rattle.mesh_laws.proofs.AnnouncedSums.{announces_checksums}
use Rattle.mesh_laws.proofs.MachineInvariant.{newest_or_older}

-- ---- computed
equal_sums : entry_sum one_client ≡ entry_sum other_client
unfolding entry_sum crc32c
equal_sums = refl

one_piece : put_together 1 (λ place. piece place one_commit.table) ≡ addition one_client ∷ []
unfolding piece_size
one_piece = refl

one_counts : piece_count one_commit.table ≡ 1
unfolding piece_count
one_counts = refl

misled_counts : piece_count misled_version.table ≡ 1
unfolding piece_count
misled_counts = refl

-- a table that begins with the one client has the checksums of the same with the other
same_checksums : (rest : List Entry) → checksums (one_client ∷ rest) ≡ checksums (other_client ∷ rest)
same_checksums rest = fun_ext (λ v.
    elim (v.0 == 0) as (λ b. xor_of (map entry_sum (cond b (one_client ∷ entries_in v rest) (entries_in v rest))) ≡ xor_of (map entry_sum (cond b (other_client ∷ entries_in v rest) (entries_in v rest)))) [
      | true ↦ ap (λ n. bit_xor n (checksums rest v)) equal_sums
      | false ↦ refl
    ])

-- what is told of commit 3 are the sums of what node 0 makes of it
misled_sums : checksums misled_version.table ≡ sum_at (told_of 3 third_commit).sums
misled_sums = same_checksums (third_client ∷ []) ∙ sym (announces_checksums third_commit.table)

-- the second byte of the first client's address
second_byte : List Entry → ℕ
second_byte [] = 0
second_byte (e ∷ rest) = slice_index e.key.mac.0 1

differ : (rest : List Entry) → one_client ∷ rest ≡ other_client ∷ rest → ⊥
unfolding second_byte
differ rest e =
    let bytes : ◌≡◌ {A = ℕ} 0 0xf1 = ap second_byte e in
    omega arith

-- ---- the moves
one_ordered : IsInKeyOrder one_commit.table
unfolding IsStrictlySortedBy
one_ordered = (tt, tt)

other_ordered : IsInKeyOrder other_commit.table
unfolding IsStrictlySortedBy
other_ordered = (tt, tt)

third_ordered : IsInKeyOrder third_commit.table
unfolding IsStrictlySortedBy
third_ordered = ((refl, tt), (tt, tt))

some : (t : List Entry) → piece_count t ≡ 1 → 0 < piece_count t
some t e = omega arith

piece_said : (place : ℕ) → place < 1 → PieceWasSaid one_said.said 1 (sum_at (sums_of one_commit.table)) place 1 (piece place one_commit.table)
piece_said zero below = (sums_of one_commit.table, refl, inl (ap (λ n. Piece 1 (sums_of one_commit.table) 0 n (piece 0 one_commit.table)) (sym one_counts)))
piece_said (suc place) below = absurd (omega arith)

reach_one_said : Reaches start one_said
reach_one_said = then_move _ _ _ (then_move _ _ _ (then_move _ _ _ (no_move start)
    (commits start one_commit (omega arith) one_ordered))
    (announces _ one_commit (first_commit ∷ []) [] refl (inl refl)))
    (answers_piece _ one_commit (first_commit ∷ []) 0 refl (some one_commit.table one_counts))

reach_one_held : Reaches start one_held
reach_one_held = then_move _ _ _ (then_move _ _ _ reach_one_said
    (is_told one_said 0 1 1 (sums_of one_commit.table) [] (inr (inl refl))))
    (takes_full (told_and_holds 1 one_commit None one_said) 0 (told_of 1 one_commit) 1 (λ place. piece place one_commit.table) one_commit.table
    refl (omega arith) piece_said (ap (apply_strictly []) one_piece) (sym (announces_checksums one_commit.table)))

reach_third_said : Reaches start third_said
reach_third_said = then_move _ _ _ (then_move _ _ _ (then_move _ _ _ reach_one_held
    (commits one_held other_commit (omega arith) other_ordered))
    (commits _ third_commit (omega arith) third_ordered))
    (announces _ third_commit (other_commit ∷ one_commit ∷ first_commit ∷ []) (addition third_client ∷ []) refl (inr (refl, refl)))

reach_misled : Reaches start misled_world
reach_misled = then_move _ _ _ (then_move _ _ _ (then_move _ _ _ reach_third_said
    (is_told third_said 0 3 2 (sums_of third_commit.table) (addition third_client ∷ []) (inl refl)))
    (takes_changes (told_and_holds 3 third_commit (Some one_commit) third_said) 0 (told_of 3 third_commit) one_commit (sums_of third_commit.table) (addition third_client ∷ []) misled_version.table
    refl refl (inl (3, inl refl, (λ e. cc))) refl refl refl misled_sums))
    (passes _ 0 misled_version 0 refl (some misled_version.table misled_counts))

-- ---- what it shows
by_commit : (P : Version → Type 0) → P third_commit → P other_commit → P one_commit → P first_commit → (n : ℕ) (c : Version) → commit_numbered n misled_world.commits ≡ Some c → P c
by_commit P third other one first =
    newest_or_older P third_commit (other_commit ∷ one_commit ∷ first_commit ∷ []) third
    (newest_or_older P other_commit (one_commit ∷ first_commit ∷ []) other
    (newest_or_older P one_commit (first_commit ∷ []) one
    (newest_or_older P first_commit [] first (λ n c h. cc))))

not_a_commit : IsCommit misled_world.commits misled_version → ⊥
not_a_commit is = by_commit (λ c. c ≡ misled_version → ⊥)
    (λ e. differ (third_client ∷ []) (ap (λ v. v.table) (sym e)))
    (λ e. other_byte 1 (ap (λ v. v.byte) e) (omega arith)) (λ e. other_byte 1 (ap (λ v. v.byte) e) (omega arith)) (λ e. other_byte 0 (ap (λ v. v.byte) e) (omega arith))
    is.0 misled_version is.1 refl
  where
    other_byte : (n : ℕ) → n ≡ 2 → n < 2 → ⊥
    other_byte n e below = omega arith

disagrees : Agrees misled_world.commits (piece_of misled_version 0) → ⊥
unfolding piece_size
disagrees a = by_commit (λ c. 2 ≡ c.byte → piece 0 misled_version.table ≡ piece 0 c.table → ⊥)
    (λ b e. differ (third_client ∷ []) (ap (map (λ x. x.entry)) e))
    (λ b e. other_byte 1 b (omega arith)) (λ b e. other_byte 1 b (omega arith)) (λ b e. other_byte 0 b (omega arith))
    a.1.0 a.0 a.1.1 a.2.0 a.5
  where
    other_byte : (n : ℕ) → 2 ≡ n → n < 2 → ⊥
    other_byte n e below = omega arith

pub is_misled : IsMisled
is_misled = record {
  reached = reach_misled;
  has_alias = λ none. differ [] (none one_commit other_commit (1, refl) (2, refl) refl (same_checksums []));
  told = refl;
  held = refl;
  agreed = (refl, misled_sums);
  not_the_told = differ (third_client ∷ []);
  not_a_commit = not_a_commit;
  said = inl refl;
  disagrees = disagrees;
}
