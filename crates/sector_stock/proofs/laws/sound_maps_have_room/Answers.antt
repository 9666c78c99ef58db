use Rattle.sector_stock.proofs.RoomLaws.{sound-room}
use Rattle.sector_stock.proofs.laws.sound_maps_have_room.Goals as goal

pub returns : goal.returns
returns c = sound-room
