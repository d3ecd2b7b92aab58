-- What `lockerplan` prints: the plan of a bay from its sheet alone, and its text.
pub mod Plan
