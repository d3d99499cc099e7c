pub mod CounterSends
