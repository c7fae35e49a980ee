mod Rekeyed
