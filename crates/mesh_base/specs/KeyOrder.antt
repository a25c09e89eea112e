-- The order of clients' keys: by the bytes of the address, the first byte first, and at one address
-- by the wire number of the VLAN. The main word is `key_order`.
use Rattle.std.specs.Ordering.{nat_cmp, ordering_then}
use Rattle.std.specs.Cmp.Lexicographic.{slice_cmp}
use Rattle.std.specs.declared.cmp.Ordering.{Ordering}
use Rattle.mesh_base.specs.declared.client.Key.{Key}

-- how two keys stand to one another
abbrev pub key_order : Key → Key → Ordering
key_order a b = ordering_then (slice_cmp nat_cmp a.mac.0 b.mac.0) (nat_cmp a.vid.0 b.vid.0)
