use Rattle.std.proofs.Common.{◌≡◌, ◌<◌, ◌≤◌, ℕ, [], length, get_or}
use Rattle.std.specs.Prelude.{vec_len, vec_capacity}
use Rattle.px_beginning.specs.Rooms.{HasRoomFor, no_room}
use Rattle.px_beginning.proofs.rooms.rooms_of.Given as goal

abbrev pub invariant-loop-place : goal.invariant-loop-place
invariant-loop-place l = record {
  count : vec_len l.rooms ≡ l.place;
  room : length l.marks.items ≤ vec_capacity l.rooms;
  each : (i : ℕ) → i < l.place → HasRoomFor (get_or l.rooms.items i no_room) (get_or l.marks.items i []) (get_or l.closes.items i []);
}
