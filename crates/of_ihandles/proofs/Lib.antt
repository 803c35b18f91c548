-- BlockAccess: blocks of the instance region can be read and written.
-- BlockCounts: how often a block is live.
-- BlockLists: loops over lists of blocks.
-- BlocksTaken: blocks that were taken lie in the instance region.
-- IhandlesAreNew: the law `ihandles_are_new`.
-- InstancesBegin: the law `instances_begin`.
-- Opening: the blocks that an opening takes.
-- RoomLoops: rooms in the live instances of a package.
-- OwnedByCalls: the law `blocks_are_owned`.
-- SlotsAreOwn: the law `slots_are_own`.
-- SlotsByCalls: each call keeps a block for each slot in each live instance.
-- SpaceKept: the law `instances_keep_the_space`.
pub mod BlockAccess
pub mod BlockCounts
pub mod BlockLists
pub mod BlocksTaken
pub mod IhandlesAreNew
pub mod InstancesBegin
pub mod Opening
pub mod OwnedByCalls
pub mod RoomLoops
pub mod SlotsAreOwn
pub mod SlotsByCalls
pub mod SpaceKept
