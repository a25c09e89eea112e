use Rattle.std.proofs.Common.{◌≤◌, List, length, drop, [], slice_index_or}
use Rattle.std.specs.List.{filter}
use Rattle.mesh_model.specs.declared.happening.Happening.{Happening}
use Rattle.mesh_model.specs.Net.Mesh.{Mesh}
use Rattle.mesh_post.specs.declared.row.Sending.{Sending}
use Rattle.mesh_post.specs.Refused.{Enters}
use Rattle.mesh_post.specs.Sent.{Amid, AreLow, Grew, HasRoomFor, IsSending, KeepsAll, row_goes, chosen_ways}
use Rattle.mesh_post.proofs.Midway.{Midway}
use Rattle.mesh_post.proofs.post.Post.carry_all.Given as goal

abbrev pub invariant-loop-i : goal.invariant-loop-i
invariant-loop-i l = record {
  kept : KeepsAll l.fn.self l.self;
  grew : Grew l.fn.log l.log;
  enters : Enters l.fn.self l.self;
  goes : (sendings : List Sending) (last : Happening) (ticks : List Happening) (mesh : Mesh) →
      Amid l.fn.self sendings last ticks mesh → IsSending sendings l.parcel.sending l.bytes l.sender.root →
      HasRoomFor mesh l.sender.now (length (chosen_ways l.fn.self l.sender.place l.to)) (length l.bytes) →
      AreLow (chosen_ways l.fn.self l.sender.place l.to) mesh → last.moment ≤ l.sender.now →
      Midway l.fn.self.choice l.self sendings last ticks l.sender l.parcel.reason l.bytes (chosen_ways l.fn.self l.sender.place l.to)
      (filter (row_goes l.fn.self.rows l.to) (drop l.i (slice_index_or l.fn.self.ways.items l.sender.place []))) mesh l.fn.log l.log;
}
