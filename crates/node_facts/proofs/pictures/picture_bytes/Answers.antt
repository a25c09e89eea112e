use Rattle.std.proofs.Common.{◌≤◌, ◌∙◌, ◌++◌, List, ap, ap₂, length, subst, sym, take}
use Rattle.std.specs.Prelude.{ℕ, filter_map}
use Rattle.mesh_base.specs.declared.address.Mac.{Mac}
use Rattle.mesh_model.specs.Packets.Pictures.{picture_spelling}
use Rattle.mesh_model.specs.Services.Pictures.{clients_in, if_neighbour, most_clients, most_neighbours}
use Rattle.node_facts.proofs.ListLemmas.{few_taken}
use Rattle.node_facts.proofs.pictures.picture_bytes.Goals as goal

pub write_vis-requires-clause-few_rows : goal.write_vis-requires-clause-few_rows
write_vis-requires-clause-few_rows g c =
    subst (λ (rows : List (Mac × ℕ)). length rows ≤ most_neighbours) (sym (c.as_slice-3.ensures.value ∙ c.in_ok-neighbours.ensures))
    (few_taken most_neighbours (filter_map if_neighbour c.as_slice.result.now))

pub write_vis-requires-clause-few_keys : goal.write_vis-requires-clause-few_keys
write_vis-requires-clause-few_keys g c =
    subst (λ keys. length keys ≤ most_clients) (sym (c.as_slice-4.ensures.value ∙ c.in_ok-clients.ensures))
    (few_taken most_clients (clients_in c.as_slice-2.result.now))

pub returns : goal.returns
returns g c = λ me known mentions history since stands own.
    let neighbours = c.as_slice-3.ensures.value ∙ c.in_ok-neighbours.ensures
    ∙ ap (λ rows. take most_neighbours (filter_map if_neighbour rows)) (c.as_slice.ensures.value ∙ c.in_ok-rows.ensures me known.routes stands.routes) in
    let clients = c.as_slice-4.ensures.value ∙ c.in_ok-clients.ensures
    ∙ ap (λ entries. take most_clients (clients_in entries)) (c.as_slice-2.ensures ∙ c.last_table.ensures mentions history since own) in
    c.in_ok-write_vis.ensures.ok
    ∙ ap (λ before. before ++ picture_spelling (record { neighbours = c.as_slice-3.result.now; clients = c.as_slice-4.result.now })) c.new-bytes.ensures.items
    ∙ ap₂ (λ ns ks. picture_spelling (record { neighbours = ns; clients = ks })) neighbours clients
