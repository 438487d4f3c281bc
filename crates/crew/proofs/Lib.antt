mod Hired
mod Rounds
mod Sums
mod Settled
