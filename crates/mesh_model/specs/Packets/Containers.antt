-- Containers, the type-version-length-value fields ("TVLV") of batman-adv: what they are in bytes.
-- A container is its type, its version, the length of its body in two bytes, the higher first, and
-- then the body. Containers follow one another without a gap. Behind the last one bytes may be left
-- that begin no whole container.
-- The main words are `AreContainers`, what containers bytes are, and `containers_of`, the same
-- computed.
use Rattle.std.specs.Prelude.{◌≡◌, ℕ, zero, suc, ◌+◌, ◌^◌, ◌<◌, ◌≢◌, nat_lt, if◌then◌else◌, List, [], ◌∷◌, ◌++◌, length, take, drop, slice_index, flat_map, All, Option, Some, None, option_map, unwrap_or}
use Rattle.byteorder.specs.Endian.{big_bytes, big_number}

-- a container as plain data
pub record Container : Type 0 where
  pub kind : ℕ
  pub version : ℕ
  pub body : List ℕ

-- the bytes before a container's body
abbrev pub container_header : ℕ
container_header = 4

-- the bytes of a container, header and body
abbrev pub container_size : Container → ℕ
container_size container = container_header + length container.body

-- a container whose length is told by two bytes
abbrev pub FitsLength : Container → Type 0
FitsLength container = length container.body < 2 ^ 16

-- how a container is spelled
abbrev pub container_spelling : Container → List ℕ
container_spelling container =
    container.kind ∷ container.version ∷ big_bytes 2 (length container.body) ++ container.body

-- how containers are spelled, one after the other
abbrev pub containers_spelling : List Container → List ℕ
containers_spelling containers = flat_map container_spelling containers

-- bytes that begin no whole container
abbrev pub BeginsNone : List ℕ → Type 0
BeginsNone bytes = (container : Container) (more : List ℕ) → FitsLength container
    → bytes ≢ container_spelling container ++ more

-- the bytes are these containers, one after the other, and then a rest that begins no whole one
pub record AreContainers (bytes : List ℕ) (containers : List Container) (rest : List ℕ)
    : Type 0 where
  pub spelled : bytes ≡ containers_spelling containers ++ rest
  pub each : All FitsLength containers
  pub cut : BeginsNone rest

-- the length of the body that the first container tells; a byte that isn't there counts as 0
abbrev pub told_length : List ℕ → ℕ
told_length bytes = big_number 2 (drop 2 bytes)

-- bytes that are fewer than a header and the length that it tells
abbrev pub AreShort : List ℕ → Type 0
AreShort bytes = length bytes < container_header + told_length bytes

-- the first container of bytes that begin a whole one
abbrev pub front_container : List ℕ → Container
front_container bytes = record {
  kind = slice_index bytes 0;
  version = slice_index bytes 1;
  body = take (told_length bytes) (drop container_header bytes);
}

-- the first container of bytes, or none where they are short
abbrev pub first_container : List ℕ → Option Container
first_container bytes =
    if nat_lt (length bytes) (container_header + told_length bytes) then None
    else Some (front_container bytes)

-- the first containers of bytes, at most so many
unfoldable pub first_containers : ℕ → List ℕ → List Container
first_containers zero bytes = []
first_containers (suc more) bytes = unwrap_or (option_map
    (λ container. container ∷ first_containers more (drop (container_size container) bytes))
    (first_container bytes)) []

-- the containers of bytes, of which there are at most as many as bytes
unfoldable pub containers_of : List ℕ → List Container
containers_of bytes = first_containers (length bytes) bytes

-- what is left behind the containers of bytes
abbrev pub rest_of : List ℕ → List ℕ
rest_of bytes = drop (length (containers_spelling (containers_of bytes))) bytes
