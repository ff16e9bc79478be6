-- Bytes laid out one after the other, with more behind them than a format has.
pub mod Laid
