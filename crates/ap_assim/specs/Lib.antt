pub mod Assimilated
