use Rattle.esc_store.proofs.Common.{◌≡◌, map, length, take, State, new_entry, new_image, image_now}
use Rattle.esc_store.proofs.Common.{HasMadeTables, ChangeFollows, IsHonest, store_in, AreFree}
use Rattle.esc_store.proofs.filling.Change+S.find_images.Given as goal

abbrev pub invariant-loop-at : goal.invariant-loop-at
invariant-loop-at g l = record {
  follows : ChangeFollows g.S.Store l.fn.self l.self;
  count : l.self.count ≡ l.fn.self.count;
  length : length l.images.items ≡ l.at;
  images : IsHonest g.S.Store (store_in l.self)
      → (s : State) → AreFree l.targets s (map new_entry l.rows) → HasMadeTables g.S.Store l.fn.self s
      → (map new_image l.images.items ≡ map (image_now s) (map new_entry (take l.at l.rows)))
      × HasMadeTables g.S.Store l.self s;
}
