mod PoolLemmas
mod Samples
