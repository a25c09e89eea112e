-- The throughput of the link back, and what stands at the place of a frame.
use Rattle.std.proofs.Common.{◌≡◌, ℕ, zero, suc, nat_eq, ◌&&◌, Bool, true, false, if◌then◌else◌, List, [], ◌∷◌, find, length, slice_get, Option, Some, None, option_and_then, option_map, refl, sym, ap, ap₂, ◌∙◌, subst, arith}
use Rattle.std.specs.Option.{option_map_or}
use Rattle.std.proofs.lemmas.Option.{none-some, slice_get_within}
use Rattle.mesh_model.specs.Net.Mesh.{NodeLog, NetLink, SentFrame, LanPut, Mesh}
use Rattle.mesh_model.specs.Net.Runs.{leads, throughput_between}
use Rattle.mesh_post.specs.declared.post.Post.{Post}
use Rattle.mesh_post.specs.declared.posted.Posted.{Posted}
use Rattle.mesh_post.specs.declared.row.Put.{Put}
use Rattle.mesh_post.specs.declared.row.Row.{Row}
use Rattle.mesh_post.specs.declared.row.Sending.{Sending}
use Rattle.mesh_post.specs.Kept.{FrameIs, FramesAre, HasRow, PutIs, PutsAre, PostStands, RowIs, RowsAre}
use Rattle.mesh_post.specs.Inner.Links.{back_among, back_over, between, throughput_of}
use Rattle.mesh_post.proofs.LookUps.{got_there, some_one}

-- ---- the first link that leads so is the same, by the rows and in the mesh
either_first : (link : NetLink) (row : Row) (found : Option NetLink) (read : Option Row) (here : Bool) → row.tp ≡ link.throughput → option_map_or (λ (r : Row). r.tp) read 0 ≡ option_map_or (λ (l : NetLink). l.throughput) found 0
    → option_map_or (λ (r : Row). r.tp) (if here then Some row else read) 0 ≡ option_map_or (λ (l : NetLink). l.throughput) (if here then Some link else found) 0
either_first link row found read true own rest = own
either_first link row found read false own rest = rest

rows_throughput : (nodes : List NodeLog) (from to : ℕ) (links : List NetLink) (rows : List Row) → length rows ≡ length links → ((place : ℕ) (link : NetLink) → slice_get links place ≡ Some link → HasRow nodes rows place link) → throughput_of from to rows ≡ throughput_between from to links
rows_throughput nodes from to [] [] count each = refl
rows_throughput nodes from to [] (row ∷ rows) count each = absurd (omega (arith, count))
rows_throughput nodes from to (link ∷ links) [] count each = absurd (omega (arith, count))
rows_throughput nodes from to (link ∷ links) (row ∷ rows) count each =
    let h = each 0 link refl in
    let is : RowIs nodes link row = subst (RowIs nodes link) (sym (some_one row h.row h.found)) h.is in
    ap (λ b. option_map_or (λ (r : Row). r.tp) (if b then Some row else find (between from to) rows) 0) (ap₂ (λ x y. nat_eq x from && nat_eq y to) is.from is.to)
    ∙ either_first link row (find (leads from to) links) (find (between from to) rows) (leads from to link) is.throughput
    (rows_throughput nodes from to links rows (omega (arith, count)) (λ place x found. let k = each (suc place) x found in record { row = k.row; found = k.found; is = k.is }))

-- what is kept beside the row of a link is the throughput of the link back
pub back_is : (nodes : List NodeLog) (links : List NetLink) (rows : List Row) (place : ℕ) (link : NetLink) → RowsAre nodes links rows → slice_get links place ≡ Some link → back_over rows place ≡ throughput_between link.to link.from links
back_is nodes links rows place link all found =
    let h = all.each place link found in
    ap (λ o. option_map_or (back_among rows) o 0) h.found
    ∙ ap₂ (λ from to. throughput_of from to rows) h.is.to h.is.from
    ∙ rows_throughput nodes link.to link.from links rows all.count all.each

-- ---- the frame at a place
pub frame_there : (sendings : List Sending) (frames : List SentFrame) (kept : List Posted) (place : ℕ) (frame : SentFrame) → FramesAre sendings frames kept → slice_get frames place ≡ Some frame → (posted : Posted) × (slice_get kept place ≡ Some posted) × FrameIs sendings frame posted
frame_there sendings [] [] place frame all e = cc
frame_there sendings [] (q ∷ kept) place frame all e = absurd all
frame_there sendings (x ∷ frames) [] place frame all e = absurd all
frame_there sendings (x ∷ frames) (q ∷ kept) zero frame all e = (q, refl, subst (λ f. FrameIs sendings f q) (some_one x frame e) all.0)
frame_there sendings (x ∷ frames) (q ∷ kept) (suc place) frame all e = frame_there sendings frames kept place frame all.1 e

pub no_frame : (sendings : List Sending) (frames : List SentFrame) (kept : List Posted) (place : ℕ) (posted : Posted) → FramesAre sendings frames kept → slice_get frames place ≡ None → slice_get kept place ≡ Some posted → ⊥
no_frame sendings [] [] place posted all n e = cc
no_frame sendings [] (q ∷ kept) place posted all n e = all
no_frame sendings (x ∷ frames) [] place posted all n e = cc
no_frame sendings (x ∷ frames) (q ∷ kept) zero posted all n e = cc
no_frame sendings (x ∷ frames) (q ∷ kept) (suc place) posted all n e = no_frame sendings frames kept place posted all.1 n e

pub frame_back : (sendings : List Sending) (frames : List SentFrame) (kept : List Posted) (place : ℕ) (posted : Posted) → FramesAre sendings frames kept → slice_get kept place ≡ Some posted → (frame : SentFrame) × (slice_get frames place ≡ Some frame) × FrameIs sendings frame posted
frame_back sendings [] [] place posted all e = cc
frame_back sendings [] (q ∷ kept) place posted all e = absurd all
frame_back sendings (x ∷ frames) [] place posted all e = absurd all
frame_back sendings (x ∷ frames) (q ∷ kept) zero posted all e = (x, refl, subst (FrameIs sendings x) (some_one q posted e) all.0)
frame_back sendings (x ∷ frames) (q ∷ kept) (suc place) posted all e = frame_back sendings frames kept place posted all.1 e

pub frame_gone : (sendings : List Sending) (frames : List SentFrame) (kept : List Posted) (place : ℕ) → FramesAre sendings frames kept → slice_get kept place ≡ None → slice_get frames place ≡ None
frame_gone sendings [] [] place all e = refl
frame_gone sendings [] (q ∷ kept) place all e = absurd all
frame_gone sendings (x ∷ frames) [] place all e = absurd all
frame_gone sendings (x ∷ frames) (q ∷ kept) zero all e = cc
frame_gone sendings (x ∷ frames) (q ∷ kept) (suc place) all e = frame_gone sendings frames kept place all.1 e

-- ---- the node at the end of the link of a frame

-- there is no link where there is no row
no_link : (nodes : List NodeLog) (links : List NetLink) (rows : List Row) (place : ℕ) (found : Option NetLink) → RowsAre nodes links rows → slice_get rows place ≡ None → slice_get links place ≡ found → found ≡ None
no_link nodes links rows place None all none is = refl
no_link nodes links rows place (Some link) all none is =
    let h = all.each place link is in
    absurd (none-some h.row (sym none ∙ h.found))

abbrev pub receiver_in : List NetLink → Option SentFrame → Option ℕ
receiver_in links frame = option_map (λ (link : NetLink). link.to) (option_and_then (λ (f : SentFrame). slice_get links f.link) frame)

module _ (post : Post) (sendings : List Sending) (mesh : Mesh) (place : ℕ) (stands : PostStands post sendings mesh) where
  -- there is no such frame
  pub receiver_none : slice_get post.frames place ≡ None → receiver_in mesh.links (slice_get mesh.frames place) ≡ None
  receiver_none none = ap (receiver_in mesh.links) (frame_gone sendings mesh.frames post.frames place stands.frames none)

  -- nor such a link
  pub receiver_off : (posted : Posted) → slice_get post.frames place ≡ Some posted → slice_get post.rows posted.link ≡ None → receiver_in mesh.links (slice_get mesh.frames place) ≡ None
  receiver_off posted found none =
      let f = frame_back sendings mesh.frames post.frames place posted stands.frames found in
      let off = no_link mesh.nodes mesh.links post.rows f.0.link (slice_get mesh.links f.0.link) stands.rows (ap (slice_get post.rows) (sym f.2.link) ∙ none) refl in
      ap (receiver_in mesh.links) f.1 ∙ ap (option_map (λ (link : NetLink). link.to)) off

  pub receiver_row : (posted : Posted) (row : Row) → slice_get post.frames place ≡ Some posted → slice_get post.rows posted.link ≡ Some row → receiver_in mesh.links (slice_get mesh.frames place) ≡ Some row.to
  receiver_row posted row found read =
      let f = frame_back sendings mesh.frames post.frames place posted stands.frames found in
      let low = slice_get_within post.rows posted.link row read in
      let count = stands.rows.count in
      let link = got_there mesh.links posted.link (omega (arith, low, count)) in
      let h = stands.rows.each posted.link link.0 link.1 in
      let same : h.row ≡ row = some_one h.row row (sym h.found ∙ read) in
      ap (receiver_in mesh.links) f.1 ∙ ap (λ i. option_map (λ (l : NetLink). l.to) (slice_get mesh.links i)) (sym f.2.link) ∙ ap (option_map (λ (l : NetLink). l.to)) link.1
      ∙ ap (λ n. Some n) (sym h.is.to ∙ ap (λ (r : Row). r.to) same)

-- ---- the LAN frame at a place
pub put_there : (sendings : List Sending) (puts : List LanPut) (kept : List Put) (place : ℕ) (k : Put) → PutsAre sendings puts kept → slice_get kept place ≡ Some k → (put : LanPut) × (slice_get puts place ≡ Some put) × PutIs sendings put k
put_there sendings [] [] place k all e = cc
put_there sendings [] (q ∷ kept) place k all e = absurd all
put_there sendings (x ∷ puts) [] place k all e = absurd all
put_there sendings (x ∷ puts) (q ∷ kept) zero k all e = (x, refl, subst (PutIs sendings x) (some_one q k e) all.0)
put_there sendings (x ∷ puts) (q ∷ kept) (suc place) k all e = put_there sendings puts kept place k all.1 e

pub no_put : (sendings : List Sending) (puts : List LanPut) (kept : List Put) (place : ℕ) → PutsAre sendings puts kept → slice_get kept place ≡ None → slice_get puts place ≡ None
no_put sendings [] [] place all e = refl
no_put sendings [] (q ∷ kept) place all e = absurd all
no_put sendings (x ∷ puts) [] place all e = absurd all
no_put sendings (x ∷ puts) (q ∷ kept) zero all e = cc
no_put sendings (x ∷ puts) (q ∷ kept) (suc place) all e = no_put sendings puts kept place all.1 e
