-- The proof of agreement: the model that the argument is about, its moves, the invariant, and the bank at rest. Then the bounds: how many
-- packets are under way, and how many steps lead to rest.
pub mod relation
pub mod invariant
pub mod refinement
pub mod bounds
pub mod journals
pub mod losses
pub mod Agreement
pub mod Companions
pub mod Limits
pub mod Dispatched
pub mod Returned
pub mod Journaled
pub mod Losing
