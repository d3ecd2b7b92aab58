-- Demand 3 is `Demand3`. It rests on one entry (`Step`), old entries cleared (`Clean`), one direction laid over any list of uses and the other beside it (`Run`,
-- `Straight`), the uses of a direction (`Uses`), bytes (`Sheets`) and what an accepted call tells (`Told`). `Consequences` follow from it, `Contradicted` is about
-- wrong planners. The default beside keeping is `AsKeeping`, the call beside two passes that keep is `TwoPasses`, and the other way `PassesAccepted`; a call
-- made again is `Again` (with `Left` and `Images`). `Unread` is about pairs; `Bench`, `Examples` and `Paired` are computed.
pub mod Bench
pub mod Basics
pub mod Straight
pub mod Step
pub mod Clean
pub mod Run
pub mod Left
pub mod Uses
pub mod Sheets
pub mod Told
pub mod Demand3
pub mod AsKeeping
pub mod Images
pub mod TwoPasses
pub mod PassesAccepted
pub mod Again
pub mod Consequences
pub mod Contradicted
pub mod Examples
pub mod Unread
pub mod Paired
