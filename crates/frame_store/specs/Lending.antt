-- What a store ends as, where a frame of it was lent with the tail: its older part is as it was
-- when the frame was lent, and what the tail made of the other part stays.
use Rattle.std.specs.Borrow.{Fml, Lends, MutBor}
use Rattle.frame_store.specs.contracts.grown.Grown.{the_row as grown_row}
use Rattle.frame_store.specs.contracts.store.FrameStore.{the_row}
use Rattle.frame_store.specs.declared.store.FrameStore.{FrameStore}
use Rattle.frame_store.specs.declared.tail.Tail.{Tail}

-- a store ends as the tail leaves it
abbrev pub LendsTail : MutBor FrameStore → Tail → Fml
LendsTail store tail = Lends the_row grown_row store tail.grown
    (λ grown. record { older = tail.older.now; grown = grown })
