-- An answer in full from a commit that was told last is taken, in one piece or in parts.
use Rattle.std.proofs.Common.{◌≡◌, map, sym, ap, subst, ◌∙◌, arith}
use Rattle.std.proofs.lemmas.Map.Keys.{IsDistinct-from_sorted}
use Rattle.mesh_base.specs.KeyOrder.{key_order}
use Rattle.mesh_base.specs.declared.client.Entry.{Entry}
use Rattle.mesh_model.specs.Commits.History.{history}
use Rattle.mesh_model.specs.Tables.Changes.{addition}
use Rattle.mesh_model.specs.Tables.Pieces.{piece, piece_count}
use Rattle.mesh_model.specs.Tables.Versions.{Version}
use Rattle.mesh_laws.proofs.AnnouncedSums.{announces_checksums}
use Rattle.mesh_laws.proofs.HeldLemmas.{commits_are_told_whole}
use Rattle.mesh_laws.proofs.KnownLemmas.{full_answer_is_taken}
use Rattle.mesh_laws.proofs.PartLemmas.{parts_are_taken}
use Rattle.mesh_laws.proofs.PieceLemmas.{pieces_make_table, same_together, some_piece}
use Rattle.mesh_laws.specs.KnownLaws.{IsToldWhole}
use Rattle.mesh_laws.specs.Machine.Pieces.{put_together}
use Rattle.mesh_tie.specs.FullAnswers.{FullAnswersRepair, PartsRepair, full_part, parts_of_full}
use Rattle.mesh_laws.specs.HeldLaws.{stamp_of_commit}
use Rattle.mesh_tie.proofs.CommitLemmas.{chain, ordered}
use Rattle.mesh_tie.proofs.TableRows.{count_mapped, few_pieces, piece_mapped}

pub full_answers_repair : FullAnswersRepair
full_answers_repair me log commit is known told =
    let order = ordered (history me log) (chain me log) is.0 commit is.1 in
    full_answer_is_taken known (stamp_of_commit commit) (map addition commit.table)
    (subst (λ t. IsToldWhole t (stamp_of_commit commit) (map addition commit.table)) (sym told) (commits_are_told_whole commit order))

-- the parts of an answer in full, put together
together : (commit : Version) → put_together (parts_of_full commit) (full_part commit) ≡ map addition commit.table
together commit =
    ap (λ n. put_together n (full_part commit)) (count_mapped commit.table)
    ∙ same_together (full_part commit) (λ place. piece place commit.table) 0 (piece_count commit.table) (λ place below. piece_mapped place commit.table)
    ∙ pieces_make_table commit.table

pub parts_repair : PartsRepair
parts_repair me log commit is few before came number last =
    let order = ordered (history me log) (chain me log) is.0 commit is.1 in
    let counted = count_mapped commit.table in
    let some = some_piece commit.table in
    let most = few_pieces commit.table few in
    parts_are_taken me before came (stamp_of_commit commit) (stamp_of_commit commit) (parts_of_full commit) number (full_part commit) (record {
      entries = commit.table;
      some = omega (arith, counted, some);
      few = omega (arith, counted, most);
      records_are = together commit;
      distinct = IsDistinct-from_sorted key_order (map (λ (entry : Entry). entry.key) commit.table) order;
      sums_are = sym (announces_checksums commit.table);
    }) last
