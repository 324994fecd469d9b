-- Laws: the record, transfers and the published rule, shares, serve, and the replies that it writes. `Told` and `Outcomes` are for what answers tell and what
-- serve can come to, `Considered` for what becomes of a message, and `Servings` for serve step by step.
pub mod Servers
pub mod Transfers
pub mod Published
pub mod Told
pub mod Outcomes
pub mod Shares
pub mod Serves
pub mod Replies
pub mod Considered
pub mod Servings
